-- The values of a tier are values too.
use Rattle.std.proofs.Common.{◌≡◌, ℕ, suc, ◌≤◌, Bool, true, false, List, if◌then◌else◌, refl, le_refl, le_trans, arith}
use Rattle.bwe_specs.proofs.Bounds.{sum_below-mono}
use Rattle.bwe_specs.specs.Values.{AreValues}
use Rattle.tiers.specs.Tiered.{is_in_tier, value_in_tier}

value-or : (b : Bool) (n : ℕ) → (if b then n else 0) ≤ n
value-or true n = le_refl n
value-or false n = omega arith

value-starts : (b : Bool) (n : ℕ) → n ≡ 0 → (if b then n else 0) ≡ 0
value-starts true n none = none
value-starts false n none = refl

value-rises : (b : Bool) (m n : ℕ) → m ≤ n → (if b then m else 0) ≤ (if b then n else 0)
value-rises true m n le = le
value-rises false m n le = le_refl 0

pub tier-values : (groups top : ℕ) (value : ℕ → ℕ → ℕ) (tiers : List ℕ) (tier : ℕ) → AreValues groups top value → AreValues groups top (value_in_tier tiers tier value)
tier-values groups top value tiers tier are = record {
  top_small = are.top_small;
  starts = λ group. value-starts (is_in_tier tiers tier group) (value group 0) (are.starts group);
  never_falls = λ group share lt. value-rises (is_in_tier tiers tier group) (value group share) (value group (suc share)) (are.never_falls group share lt);
  together = le_trans (sum_below-mono groups _ (λ group. value group top) (λ group lt. value-or (is_in_tier tiers tier group) (value group top))) are.together;
}
