use Rattle.board_workshop.proofs.Absorbing.{fit_waiting}
use Rattle.board_workshop.proofs.Workshop.solve.Goals as goal

pub absorb_all-requires-clause-fit : goal.absorb_all-requires-clause-fit
absorb_all-requires-clause-fit g c =
    let i = c.self.invariant in
    fit_waiting g.N.Profile.reporters g.N.Profile.tasks g.N.Profile.links _ _ i.taken c.self.inside.waiting.items _ i.seen_so i.allowed i.tasks_so i.links_so
