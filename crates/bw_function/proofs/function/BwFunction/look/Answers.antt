use Rattle.std.proofs.Common.{◌≡◌, ◌≤◌, sym, ◌∙◌, ap, arith, nat_le, rules, subst, List, ℕ}
use Rattle.std.proofs.lemmas.List.Sorted.{IsPartitionPoint-from_clause}
use Rattle.bwe_specs.specs.FunctionValue.{function_value}
use Rattle.bwe_specs.proofs.Points.{function_value-le}
use Rattle.bw_function.specs.BwFunction.{IsBwFunction, points_of}
use Rattle.bw_function.proofs.Places.{IsAfter, after-is, pairs-partitioned, value-inside, value-last, amounts-rise}
use Rattle.bw_function.proofs.function.BwFunction.look.Goals as goal
use Rattle.bw_function.proofs.function.BwFunction.look.Goals.{After-partition_point-after}

-- the points are a function, and where the share is among them
kept : (c : After-partition_point-after) → IsBwFunction (record { points = points_of c.as_slice-points.result.now; top = c.self.inside.top })
kept c = subst (λ (l : List (ℕ × ℕ)). IsBwFunction (record { points = points_of l; top = c.self.inside.top })) (sym c.as_slice-points.ensures.value) c.self.invariant.is_function

found : (c : After-partition_point-after) → IsAfter c.as_slice-points.result.now c.args.share c.partition_point-after.result
found c =
    let is = (kept c).points in
    after-is c.as_slice-points.result.now c.self.inside.top c.args.share c.partition_point-after.result is c.partition_point-after.ensures.bound
    (IsPartitionPoint-from_clause (λ pair. nat_le pair.0 c.args.share) _ _ c.partition_point-after.ensures.partitioned (pairs-partitioned c.as_slice-points.result.now c.self.inside.top c.args.share is) (λ a r f' k. search rules))

same_value : (c : After-partition_point-after) → function_value c.args.self.now.points c.args.share ≡ function_value (points_of c.as_slice-points.result.now) c.args.share
same_value c = rw (← c.self.view_is) (ap (λ (l : List (ℕ × ℕ)). function_value (points_of l) c.args.share) (sym c.as_slice-points.ensures.value))

-- what a function has is few
bounded : (c : After-partition_point-after) → function_value (points_of c.as_slice-points.result.now) c.args.share ≤ 1_000_000_000_000
bounded c = let k = kept c in omega (arith, function_value-le _ _ c.args.share k.points, k.amounts)

pub overflow_sub-after : goal.overflow_sub-after
overflow_sub-after c = let h = found (goal.at.overflow_sub-after c).After-partition_point-after in omega (arith, h.some)

pub on_line-value-requires-clause-after : goal.on_line-value-requires-clause-after
on_line-value-requires-clause-after c = (found (goal.at.on_line-value-requires-clause-after c).After-partition_point-after).low

pub on_line-value-requires-clause-before : goal.on_line-value-requires-clause-before
on_line-value-requires-clause-before c = (found (goal.at.on_line-value-requires-clause-before c).After-partition_point-after).high c.if-after-points.true

pub on_line-value-requires-clause-rise : goal.on_line-value-requires-clause-rise
on_line-value-requires-clause-rise c =
    let at = (goal.at.on_line-value-requires-clause-rise c).After-partition_point-after in
    amounts-rise _ _ _ _ (kept at).points (found at) c.if-after-points.true

pub returns-then-after-points-clause-value : goal.returns-then-after-points-clause-value
returns-then-after-points-clause-value c =
    let at = (goal.at.returns-then-after-points-clause-value c).After-partition_point-after in
    c.look_on_line.ensures ∙ c.on_line-value.ensures ∙ sym (value-inside _ _ c.args.share _ (kept at).points (found at) c.if-after-points.true) ∙ sym (same_value at)

pub returns-then-after-points-clause-bound : goal.returns-then-after-points-clause-bound
returns-then-after-points-clause-bound c =
    let at = (goal.at.returns-then-after-points-clause-bound c).After-partition_point-after in
    omega (arith, c.look_on_line.ensures, c.on_line-value.ensures, value-inside _ _ c.args.share _ (kept at).points (found at) c.if-after-points.true, bounded at)

pub returns-else-after-points-clause-value : goal.returns-else-after-points-clause-value
returns-else-after-points-clause-value c =
    let at = (goal.at.returns-else-after-points-clause-value c).After-partition_point-after in
    sym (value-last _ _ c.args.share _ (kept at).points (found at) c.if-after-points.false) ∙ sym (same_value at)

pub returns-else-after-points-clause-bound : goal.returns-else-after-points-clause-bound
returns-else-after-points-clause-bound c =
    let at = (goal.at.returns-else-after-points-clause-bound c).After-partition_point-after in
    omega (arith, value-last _ _ c.args.share _ (kept at).points (found at) c.if-after-points.false, bounded at)

pub overflow_sub-after-then-after-points : goal.overflow_sub-after-then-after-points
overflow_sub-after-then-after-points c = let h = found (goal.at.overflow_sub-after-then-after-points c).After-partition_point-after in omega (arith, h.some)
