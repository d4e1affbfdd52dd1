use Rattle.std.proofs.Common.{◌≡◌, sym, ◌∙◌, ap, arith, nat_le, rules, subst, List, ℕ, min}
use Rattle.std.proofs.lemmas.List.Sorted.{IsPartitionPoint-from_clause}
use Rattle.bwe_specs.specs.Bounded.{greatest_upto}
use Rattle.bwe_specs.specs.FunctionValue.{function_value}
use Rattle.bw_function.specs.BwFunction.{IsBwFunction, points_of}
use Rattle.bw_function.proofs.Inverse.{IsUpTo, upto-is, amounts-partitioned, last-inside, last-after}
use Rattle.bw_function.proofs.function.BwFunction.last_share_within.Goals as goal
use Rattle.bw_function.proofs.function.BwFunction.last_share_within.Goals.{After-partition_point-after}

-- the points are a function, and so many of them have at most the amount
kept : (c : After-partition_point-after) → IsBwFunction (record { points = points_of c.as_slice-points.result.now; top = c.self.inside.top })
kept c = subst (λ (l : List (ℕ × ℕ)). IsBwFunction (record { points = points_of l; top = c.self.inside.top })) (sym c.as_slice-points.ensures.value) c.self.invariant.is_function

found : (c : After-partition_point-after) → IsUpTo c.as_slice-points.result.now c.args.amount c.partition_point-after.result
found c =
    let is = (kept c).points in
    upto-is c.as_slice-points.result.now c.self.inside.top c.args.amount c.partition_point-after.result is c.partition_point-after.ensures.bound
    (IsPartitionPoint-from_clause (λ pair. nat_le pair.1 c.args.amount) _ _ c.partition_point-after.ensures.partitioned (amounts-partitioned c.as_slice-points.result.now c.self.inside.top c.args.amount is) (λ a r f' k. search rules))

same_last : (c : After-partition_point-after) → greatest_upto c.args.top (λ share. nat_le (function_value (points_of c.as_slice-points.result.now) share) c.args.amount)
    ≡ greatest_upto c.args.top (λ share. nat_le (function_value c.args.self.now.points share) c.args.amount)
same_last c =
    rw (← c.self.view_is) (ap (λ (l : List (ℕ × ℕ)). greatest_upto c.args.top (λ share. nat_le (function_value (points_of l) share) c.args.amount)) c.as_slice-points.ensures.value)

pub overflow_sub-after : goal.overflow_sub-after
overflow_sub-after c = let h = found (goal.at.overflow_sub-after c).After-partition_point-after in omega (arith, h.some)

pub last_on_line-requires-clause-after : goal.last_on_line-requires-clause-after
last_on_line-requires-clause-after c = (found (goal.at.last_on_line-requires-clause-after c).After-partition_point-after).low

pub last_on_line-requires-clause-before : goal.last_on_line-requires-clause-before
last_on_line-requires-clause-before c = (found (goal.at.last_on_line-requires-clause-before c).After-partition_point-after).high c.if-after-points.true

pub last_on_line-requires-clause-rise : goal.last_on_line-requires-clause-rise
last_on_line-requires-clause-rise c = (found (goal.at.last_on_line-requires-clause-rise c).After-partition_point-after).rise c.if-after-points.true

pub returns-then-after-points-clause-last : goal.returns-then-after-points-clause-last
returns-then-after-points-clause-last c =
    let at = (goal.at.returns-then-after-points-clause-last c).After-partition_point-after in
    c.min.ensures ∙ ap (λ last. min last c.args.top) c.last_on_line.ensures
    ∙ last-inside c.as_slice-points.result.now c.self.inside.top c.args.top c.args.amount _ (kept at).points (found at) c.if-after-points.true ∙ same_last at

pub returns-else-after-points-clause-last : goal.returns-else-after-points-clause-last
returns-else-after-points-clause-last c =
    let at = (goal.at.returns-else-after-points-clause-last c).After-partition_point-after in
    last-after c.as_slice-points.result.now c.self.inside.top c.args.top c.args.amount _ (kept at).points (found at) c.if-after-points.false ∙ same_last at
