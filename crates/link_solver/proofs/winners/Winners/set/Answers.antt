use Rattle.std.proofs.Common.{ℕ, ◌+◌, ◌/◌, ◌<◌, List, length, set, sym, ap, subst, arith}
use Rattle.link_solver.specs.declared.due.Due.{Due}
use Rattle.link_solver.specs.Tournament.{IsClimbed}
use Rattle.link_solver.proofs.Tournaments.{set-climbed}
use Rattle.link_solver.proofs.winners.Winners.set.Goals as goal

pub climb-requires-clause-climbed : goal.climb-requires-clause-climbed
climb-requires-clause-climbed g c =
    let dues : List Due = c.self.inside.dues.items in
    let within : c.args.link < length dues = omega (arith, c.requires, ap (λ (ds : List Due). length ds) c.self.view_is) in
    subst (λ (ds : List Due). IsClimbed ds c.deref_mut.result.now ((length ds + c.args.link) / 2)) (sym c.deref.ensures.value)
    (subst (λ (best : List ℕ). IsClimbed (set dues c.args.link c.args.due) best ((length (set dues c.args.link c.args.due) + c.args.link) / 2)) (sym c.deref_mut.ensures.value)
    (set-climbed dues c.self.inside.best.items c.args.link c.args.due c.self.invariant within))
