use Rattle.std.proofs.Common.{ap, replicate, ◌+◌, ◌∙◌}
use Rattle.link_solver.specs.declared.due.Due.{Due}
use Rattle.link_solver.specs.Dues.{AreDues}
use Rattle.link_front.specs.Front.{wan_in, closings_in}
use Rattle.link_solver.proofs.Changes.{first-dues}
use Rattle.link_solver.proofs.GroupMoves.{ahead-few}
use Rattle.link_solver.proofs.links.first_dues.Goals as goal

pub returns-clause-dues : goal.returns-clause-dues
returns-clause-dues g c =
    let first : Due = record { share = 0; over = c.args.top + 1; low_load = 0; over_load = 0 } in
    first-dues (wan_in g.V.GroupValues.meaning c.args.front.now) (closings_in c.args.front.now) c.in_ok-of.field-0 c.args.top c.requires.top c.requires.closings
    (c.in_ok-of.ensures ∙ c.in_ok-dues.ensures.items_if_clones_equal (λ y h. h) ∙ ap (λ n. replicate n first) c.links.ensures)

pub returns-clause-ahead : goal.returns-clause-ahead
returns-clause-ahead g c =
    let first : Due = record { share = 0; over = c.args.top + 1; low_load = 0; over_load = 0 } in
    let dues : AreDues (wan_in g.V.GroupValues.meaning c.args.front.now) (closings_in c.args.front.now) c.in_ok-of.field-0 =
    first-dues (wan_in g.V.GroupValues.meaning c.args.front.now) (closings_in c.args.front.now) c.in_ok-of.field-0 c.args.top c.requires.top c.requires.closings
    (c.in_ok-of.ensures ∙ c.in_ok-dues.ensures.items_if_clones_equal (λ y h. h) ∙ ap (λ n. replicate n first) c.links.ensures) in
    ahead-few (wan_in g.V.GroupValues.meaning c.args.front.now) (closings_in c.args.front.now) c.in_ok-of.field-0 dues.each_link
