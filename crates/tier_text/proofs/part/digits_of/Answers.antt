use Rattle.std.proofs.Common.{◌≤◌, ◌-◌, slice_index, ap, arith, zero-add, subst, sym, All, length}
use Rattle.std.proofs.lemmas.List.FromFn.{length-map-range_with_len, map-range_with_len_more}
use Rattle.tier_text.proofs.Parts.{digit-at, tiers-small}
use Rattle.tier_text.proofs.part.digits_of.Goals as goal

pub bounds-part-group : goal.bounds-part-group
bounds-part-group c = (digit-at c.args.groups c.args.part.now c.requires c.loop-group.group c.loop-group-test.true).0

pub overflow_sub-part : goal.overflow_sub-part
overflow_sub-part c = (digit-at c.args.groups c.args.part.now c.requires c.loop-group.group c.loop-group-test.true).1

pub loop-group-preserved : goal.loop-group-preserved
loop-group-preserved c =
    rw (map-range_with_len_more (λ group. slice_index c.args.part.now group - 48) 0 c.loop-group.group c.loop-group.group (zero-add c.loop-group.group), ← c.loop-group.invariant)
    c.in_ok-push.ensures.items

pub returns-clause-one_each : goal.returns-clause-one_each
returns-clause-one_each c =
    omega (arith, ap length c.loop-group.invariant, length-map-range_with_len (λ group. slice_index c.args.part.now group - 48) 0 c.loop-group.group)

pub returns-clause-small : goal.returns-clause-small
returns-clause-small c =
    subst (λ tiers. All (λ tier. tier ≤ 7) tiers) (sym c.loop-group.invariant)
    (tiers-small c.args.groups c.args.part.now c.loop-group.group (omega arith) c.requires)
