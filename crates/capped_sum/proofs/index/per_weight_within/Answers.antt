use Rattle.std.proofs.Common.{rules, true, false, ◌≡◌, ◌<◌, length, get_or, nat_le, leb-true, leb-false, arith}
use Rattle.std.proofs.lemmas.List.{get_or_default}
use Rattle.std.proofs.lemmas.List.Sorted.{IsPartitionPoint-from_clause, IsPartitionedBy-leb}
use Rattle.std.specs.List.Sorted.{IsPartitionPoint}
use Rattle.capped_sum.proofs.Most.{full-partitioned, found-most, found-none, IsFoundMost}
use Rattle.capped_sum.proofs.index.per_weight_within.Goals as goal
use Rattle.capped_sum.proofs.index.per_weight_within.Goals.{After-partition_point-full}

at : (c : After-partition_point-full) → IsPartitionPoint (λ sum. nat_le sum c.args.amount ≡ true) (λ sum. nat_le sum c.args.amount ≡ false) c.args.when_full.now c.partition_point-full.result
at c =
    IsPartitionPoint-from_clause (λ sum. nat_le sum c.args.amount) _ _ c.partition_point-full.ensures.partitioned
    (IsPartitionedBy-leb (λ sum. sum) c.args.when_full.now c.args.amount (full-partitioned c.args.tasks.now c.args.ranked.now c.args.before.now c.args.when_full.now c.args.amount c.requires.index c.requires.when_full)) (λ a r f' k. search rules)

here : (c : After-partition_point-full) → c.partition_point-full.result < length c.args.ranked.now
    → IsFoundMost c.args.tasks.now c.args.amount (get_or c.args.before.now (length c.args.ranked.now) (record { weights = 0; demands = 0 })) (get_or c.args.before.now c.partition_point-full.result (record { weights = 0; demands = 0 }))
here c within =
    let point = at c in
    let size = c.requires.index.sums.size in
    found-most c.args.tasks.now c.args.ranked.now c.args.before.now c.args.when_full.now c.args.amount c.partition_point-full.result _ _ c.requires.in_range c.requires.index c.requires.when_full within
    (λ j d lt. leb-true _ _ (point.0 j d (omega (arith, c.requires.when_full.size)) lt))
    (λ j d le inside. leb-false _ _ (point.1 j d le inside))
    (get_or_default c.args.before.now c.partition_point-full.result _ _ (omega (arith, size, within)))
    (get_or_default c.args.before.now (length c.args.ranked.now) _ _ (omega (arith, size)))

pub returns-then-full-ranked : goal.returns-then-full-ranked
returns-then-full-ranked c =
    let point = at (goal.at.returns-then-full-ranked c).After-partition_point-full in
    let end = c.if-full-ranked.true in
    found-none c.args.tasks.now c.args.ranked.now c.args.before.now c.args.when_full.now c.args.amount _ c.requires.in_range c.requires.index c.requires.when_full
    (λ j d lt. leb-true _ _ (point.0 j d (omega (arith, c.requires.when_full.size)) (omega (arith, end))))
    (get_or_default c.args.before.now (length c.args.ranked.now) (record { weights = 0; demands = 0 }) _ (omega (arith, c.requires.index.sums.size)))

pub overflow_sub-open : goal.overflow_sub-open
overflow_sub-open c =
    let point = (goal.at.overflow_sub-open c).After-partition_point-full in
    let h = here point (omega (arith, c.partition_point-full.ensures.bound, c.requires.when_full.size, c.if-full-ranked.false)) in omega (arith, h.weights)

pub overflow_sub-result : goal.overflow_sub-result
overflow_sub-result c =
    let h = here (goal.at.overflow_sub-result c).After-partition_point-full (omega (arith, c.partition_point-full.ensures.bound, c.requires.when_full.size, c.if-full-ranked.false)) in h.demands

pub nonzero_div-result : goal.nonzero_div-result
nonzero_div-result c =
    let h = here (goal.at.nonzero_div-result c).After-partition_point-full (omega (arith, c.partition_point-full.ensures.bound, c.requires.when_full.size, c.if-full-ranked.false)) in omega (arith, h.weights)

pub returns : goal.returns
returns c = (here (goal.at.returns c).After-partition_point-full (omega (arith, c.partition_point-full.ensures.bound, c.requires.when_full.size, c.if-full-ranked.false))).most
