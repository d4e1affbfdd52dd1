-- Groups that rise by a slope have values that never fall.
use Rattle.std.proofs.Common.{ℕ, zero, suc, ◌-◌, ◌*◌, ◌≤◌, List, length, slice_index_or, arith, mul-zero, mul-suc}
use Rattle.bwe_specs.specs.Bounded.{sum_below}
use Rattle.mpfa_fill.specs.GroupValues.{AreGroupValues}
use Rattle.network_cases.specs.declared.slopes.Slope.{Slope}
use Rattle.network_cases.specs.SlopeValues.{value_by, values_by}

sum_below-bounded : (n bound : ℕ) (f : ℕ → ℕ) → ((i : ℕ) → f i ≤ bound) → sum_below n f ≤ n * bound
unfolding sum_below
sum_below-bounded zero bound f h = omega arith
sum_below-bounded (suc n) bound f h = omega (arith, sum_below-bounded n bound f h, h n)

rises : (slope : Slope) (share : ℕ) → value_by slope share ≤ value_by slope (suc share)
rises slope share = omega (arith, mul-suc slope.rise share)

pub slopes-are : (slopes : List Slope) (top : ℕ) → length slopes ≤ 1_000 → top ≤ 1_000_000_000 → AreGroupValues (values_by slopes top)
slopes-are slopes top few small = record {
  top_small = small;
  starts = λ group. omega (arith, mul-zero (slice_index_or slopes group (record { rise = 0; demand = 0; again = 0 })).rise);
  never_falls = λ group share below. rises (slice_index_or slopes group (record { rise = 0; demand = 0; again = 0 })) share;
  together = omega (
    arith,
    sum_below-bounded (length slopes) 10_000_000_000 (λ group. value_by (slice_index_or slopes group (record { rise = 0; demand = 0; again = 0 })) top) (λ group. omega arith),
  );
}
