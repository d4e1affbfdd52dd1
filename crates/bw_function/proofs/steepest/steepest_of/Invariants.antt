use Rattle.std.proofs.Common.{ℕ, suc, ◌<◌, ◌≤◌, get_or}
use Rattle.bwe_specs.specs.FunctionValue.{last_amount}
use Rattle.bw_function.specs.BwFunction.{point_of, points_of}
use Rattle.bw_function.proofs.Rise.{IsSlope}
use Rattle.bw_function.proofs.steepest.steepest_of.Given as goal

abbrev pub invariant-loop-at : goal.invariant-loop-at
invariant-loop-at l = record {
  bound : l.steepest ≤ last_amount (points_of l.points);
  slopes : (k : ℕ) → suc k < l.at → IsSlope (point_of (get_or l.points k (0, 0))) (point_of (get_or l.points (suc k) (0, 0))) l.steepest;
}
