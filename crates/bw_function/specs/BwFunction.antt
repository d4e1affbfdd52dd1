-- What contracts see of a bandwidth function.
use Rattle.std.specs.Prelude.{ℕ, ◌≤◌, List, map}
use Rattle.bwe_specs.specs.FunctionValue.{Point, IsFunction, function_value, last_amount}
use Rattle.bwe_specs.specs.declared.limits.TheConstants.{MAX_AMOUNT, MAX_SHARE}
use Rattle.bw_function.specs.Rise.{RisesAtMost}

-- its points, and the top share of its document
pub record Function : Type 0 where
  pub points : List Point
  pub top : ℕ

-- the points are a function up to the top, the top is a document's, and no amount is too great
pub record IsBwFunction (function : Function) : Type 0 where
  pub points : IsFunction function.points function.top
  pub low : 1 ≤ function.top
  pub high : function.top ≤ MAX_SHARE
  pub amounts : last_amount function.points ≤ MAX_AMOUNT

-- what is kept of a function: it is one, and rises by at most so much from each share to the next
pub record IsKeptFunction (function : Function) (steepest : ℕ) : Type 0 where
  pub is_function : IsBwFunction function
  pub rise : RisesAtMost (function_value function.points) steepest
  pub bound : steepest ≤ MAX_AMOUNT

-- a pair of a share and an amount as a point
abbrev pub point_of : ℕ × ℕ → Point
point_of pair = record { share = pair.0; amount = pair.1 }

abbrev pub points_of : List (ℕ × ℕ) → List Point
points_of pairs = map point_of pairs
