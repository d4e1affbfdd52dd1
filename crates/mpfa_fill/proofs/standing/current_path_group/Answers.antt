use Rattle.std.proofs.Common.{◌∙◌, sym, ap, arith, not, slice_index_or, [], below_more}
use Rattle.bwe_specs.specs.Paths.{path_group_at}
use Rattle.bwe_specs.specs.Filling.{closed_links}
use Rattle.mpfa_fill.proofs.Places.{open_is, current-some, current-none}
use Rattle.mpfa_fill.proofs.standing.current_path_group.Goals as goal

pub returns-then-not-uses_closed : goal.returns-then-not-uses_closed
returns-then-not-uses_closed c =
    sym (current-some (slice_index_or c.args.plan.now c.args.group []) (closed_links c.args.closings.now) c.loop-place.place
    (omega (arith, c.places-place-end.ensures, c.loop-place-test.true))
    (open_is (path_group_at c.args.plan.now c.args.group c.loop-place.place) c.args.closings.now c.uses_closed.result c.uses_closed.ensures ∙ ap not c.if-not-uses_closed.true)
    c.loop-place.invariant)

pub loop-place-preserved : goal.loop-place-preserved
loop-place-preserved c =
    below_more _ _ c.loop-place.invariant
    (open_is (path_group_at c.args.plan.now c.args.group c.loop-place.place) c.args.closings.now c.uses_closed.result c.uses_closed.ensures ∙ ap not c.if-not-uses_closed.false)

pub returns : goal.returns
returns c =
    sym (current-none (slice_index_or c.args.plan.now c.args.group []) (closed_links c.args.closings.now)
    (λ k lt. c.loop-place.invariant k (omega (arith, c.places-place-end.ensures, c.loop-place-test.false))))
