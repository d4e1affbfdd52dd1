use Rattle.std.proofs.Common.{◌∷◌, ◌∙◌, sym, ap, arith, not, reverse, slice_index_or, [], below_more}
use Rattle.bwe_specs.specs.Paths.{path_group_count}
use Rattle.bwe_specs.specs.Filling.{closed_links}
use Rattle.mpfa_fill.proofs.Places.{current-some, current-none}
use Rattle.growth_queries.proofs.groups.next_place.Goals as goal

pub returns-then-not-is_shut : goal.returns-then-not-is_shut
returns-then-not-is_shut g c =
    sym (current-some (slice_index_or c.args.growth.now.plan.now c.args.group []) (c.args.link ∷ closed_links (reverse c.args.growth.now.closings)) c.loop-place.place
    (omega (arith, c.places-place-end.ensures, ap (λ groups. path_group_count groups c.args.group) c.plan.ensures, c.loop-place-test.true))
    (c.is_shut.ensures ∙ ap not c.if-not-is_shut.true)
    c.loop-place.invariant)

pub loop-place-preserved : goal.loop-place-preserved
loop-place-preserved g c =
    below_more _ _ c.loop-place.invariant (c.is_shut.ensures ∙ ap not c.if-not-is_shut.false)

pub returns : goal.returns
returns g c =
    sym (current-none (slice_index_or c.args.growth.now.plan.now c.args.group []) (c.args.link ∷ closed_links (reverse c.args.growth.now.closings))
    (λ k lt. c.loop-place.invariant k (omega (arith, c.places-place-end.ensures, ap (λ groups. path_group_count groups c.args.group) c.plan.ensures, c.loop-place-test.false))))
