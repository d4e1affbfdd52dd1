-- The value of a function at its top.
use Rattle.std.proofs.Common.{◌≡◌, ℕ, Bool, true, false, List, [], ◌∷◌, refl, arith, if◌then◌else◌, nat_lt, ltb-true}
use Rattle.bwe_specs.specs.FunctionValue.{Point, between, value_from, function_value, Rises, IsFunction, last_from, last_amount}

-- the value at the top is the last amount
value_from-top : (from : Point) (later : List Point) (top : ℕ) → Rises from later top → value_from from later top ≡ last_from from later
unfolding value_from
value_from-top from [] top rises = refl
value_from-top from (next ∷ later) top rises = go (nat_lt top next.share) refl (value_from-top next later top rises.3) where
  go : (below : Bool) → nat_lt top next.share ≡ below → value_from next later top ≡ last_from next later
      → (if below then between from next top else value_from next later top) ≡ last_from next later
  go true is rest = absurd (omega (arith, ltb-true top next.share is, rises.1))
  go false is rest = rest

pub value-top : (points : List Point) (top : ℕ) → IsFunction points top → function_value points top ≡ last_amount points
unfolding function_value
value-top [] top is = absurd is
value-top (first ∷ later) top is = value_from-top first later top is.2
