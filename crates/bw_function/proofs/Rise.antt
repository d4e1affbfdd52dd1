-- By how much a function rises from each share to the next, by the lines between its points.
use Rattle.std.proofs.Common.{◌≡◌, ℕ, suc, ◌+◌, ◌-◌, ◌*◌, ◌/◌, ◌<◌, ◌≤◌, Bool, true, false, List, [], ◌∷◌, length, get_or, inl, inr, refl, ap, subst, arith, le_refl, if◌then◌else◌, nat_lt, ltb-true, ltb-false, lt-ltb}
use Rattle.std.proofs.Math.Nat.{mul-le-mul_right, le-div_iff_mul-le, div-lt_iff_lt-mul}
use Rattle.std.proofs.lemmas.Bool.{cases_lt}
use Rattle.bwe_specs.specs.FunctionValue.{Point, between, value_from, function_value, Rises, IsFunction, last_amount}
use Rattle.bwe_specs.proofs.ShareFunctions.{between-start}
use Rattle.bw_function.specs.BwFunction.{point_of, points_of}
use Rattle.bwe_specs.proofs.Points.{function-next}
use Rattle.bw_function.specs.Rise.{RisesAtMost}
use Rattle.bw_function.proofs.Places.{get-points, length-points, last-get}
use Rattle.bw_function.proofs.Inverse.{amounts-grow}

-- the amount rises by at most so much for each share from one point to the next
abbrev pub IsSlope : Point → Point → ℕ → Type 0
IsSlope from next most = next.amount - from.amount ≤ most * (next.share - from.share)

-- so it does from each point to the next
abbrev pub AreSlopes : Point → List Point → ℕ → Type 0
AreSlopes from [] most = Unit {0}
AreSlopes from (next ∷ later) most = IsSlope from next most × AreSlopes next later most

-- plain numbers: one part more of a whole adds at most the slope
part-next : (rise run most part : ℕ) → 0 < run → rise ≤ most * run → rise * (part + 1) / run ≤ rise * part / run + most
part-next rise run most part some slope =
    let over : rise * part < (rise * part / run + 1) * run = (div-lt_iff_lt-mul some).0 (omega arith) in
    let below : rise * (part + 1) / run < rise * part / run + most + 1 = (div-lt_iff_lt-mul some).1 (omega (arith, over, slope)) in
    omega (arith, below)

between-next : (from next : Point) (most share : ℕ) → from.share < next.share → IsSlope from next most
    → between from next (share + 1) ≤ between from next share + most
unfolding between
between-next from next most share run slope = elim (cases_lt share from.share) [
  | inl before ↦
      let same : share + 1 - from.share ≡ share - from.share = omega arith in
      rw same (omega arith)
  | inr after ↦
      let same : share + 1 - from.share ≡ (share - from.share) + 1 = omega arith in
      rw same (omega (arith, part-next (next.amount - from.amount) (next.share - from.share) most (share - from.share) (omega arith) slope))
]

-- on the next point's share the line has its amount
between-end : (from next : Point) → from.share < next.share → from.amount ≤ next.amount → next.amount ≤ between from next next.share
unfolding between
between-end from next run rise =
    let some : 0 < next.share - from.share = omega arith in
    let part : next.amount - from.amount ≤ (next.amount - from.amount) * (next.share - from.share) / (next.share - from.share) = (le-div_iff_mul-le some).1 (le_refl _) in
    omega (arith, part)

start : (from : Point) (later : List Point) (top : ℕ) → Rises from later top → value_from from later from.share ≡ from.amount
unfolding value_from
start from [] top rises = refl
start from (next ∷ later) top rises = rw (lt-ltb from.share next.share rises.0) (between-start from next)

from-rises : (from : Point) (later : List Point) (top most share : ℕ) → Rises from later top → AreSlopes from later most
    → value_from from later (share + 1) ≤ value_from from later share + most
unfolding value_from
from-rises from [] top most share rises slopes = omega arith
from-rises from (next ∷ later) top most share rises slopes =
    go (nat_lt (share + 1) next.share) refl (nat_lt share next.share) refl (from-rises next later top most share rises.3 slopes.1) (start next later top rises.3) where
      go : (a : Bool) → nat_lt (share + 1) next.share ≡ a → (b : Bool) → nat_lt share next.share ≡ b
          → value_from next later (share + 1) ≤ value_from next later share + most
          → value_from next later next.share ≡ next.amount
          → (if a then between from next (share + 1) else value_from next later (share + 1)) ≤ (if b then between from next share else value_from next later share) + most
      go true ea true eb past on = between-next from next most share rises.0 slopes.0
      go true ea false eb past on = absurd (omega (arith, ltb-true (share + 1) next.share ea, ltb-false share next.share eb))
      go false ea true eb past on =
          let at : share + 1 ≡ next.share = omega (arith, ltb-false (share + 1) next.share ea, ltb-true share next.share eb) in
          let line : between from next next.share ≤ between from next share + most = subst (λ s. between from next s ≤ between from next share + most) at (between-next from next most share rises.0 slopes.0) in
          rw at (omega (arith, on, line, between-end from next rises.0 rises.2))
      go false ea false eb past on = past

-- the lines by the places of pairs
slopes-along : (first : ℕ × ℕ) (later : List (ℕ × ℕ)) (most : ℕ) (d : ℕ × ℕ)
    → ((k : ℕ) → suc k < length (first ∷ later) → IsSlope (point_of (get_or (first ∷ later) k d)) (point_of (get_or (first ∷ later) (suc k) d)) most)
    → AreSlopes (point_of first) (points_of later) most
slopes-along first [] most d slope = tt
slopes-along first (next ∷ later) most d slope = (slope 0 (omega arith), slopes-along next later most d (λ k lt. slope (suc k) (omega arith)))

-- a function rises by at most so much as each of its lines
pub pairs-rise : (pairs : List (ℕ × ℕ)) (top most : ℕ) (d : ℕ × ℕ) → IsFunction (points_of pairs) top
    → ((k : ℕ) → suc k < length pairs → IsSlope (point_of (get_or pairs k d)) (point_of (get_or pairs (suc k) d)) most)
    → RisesAtMost (function_value (points_of pairs)) most
unfolding function_value
pairs-rise [] top most d is slope share = absurd is
pairs-rise (first ∷ later) top most d is slope share = from-rises (point_of first) (points_of later) top most share is.2 (slopes-along first later most d slope)

-- neighbours: the share rises, the amount never falls
pub neighbours : (pairs : List (ℕ × ℕ)) (top at : ℕ) → IsFunction (points_of pairs) top → 1 ≤ at → at < length pairs
    → ((get_or pairs (at - 1) (0, 0)).0 < (get_or pairs at (0, 0)).0) × ((get_or pairs (at - 1) (0, 0)).1 ≤ (get_or pairs at (0, 0)).1)
neighbours pairs top at is some lt =
    let e : suc (at - 1) ≡ at = omega arith in
    let h = rw e at (function-next (points_of pairs) top (at - 1) (point_of (0, 0)) is (omega (arith, length-points pairs))) in
    let from = get-points pairs (at - 1) (0, 0) in
    let next = get-points pairs at (0, 0) in
    (omega (arith, h.0, ap (λ p. p.share) from, ap (λ p. p.share) next), omega (arith, h.1, ap (λ p. p.amount) from, ap (λ p. p.amount) next))

-- no amount is above the last
pub amount-few : (pairs : List (ℕ × ℕ)) (top at : ℕ) → IsFunction (points_of pairs) top → at < length pairs → (get_or pairs at (0, 0)).1 ≤ last_amount (points_of pairs)
amount-few pairs top at is lt =
    omega (arith, amounts-grow pairs top is at (length pairs - 1) (0, 0) (omega arith) (omega arith), last-get pairs (0, 0) (omega arith))

-- one line more
pub slopes-more : (pairs : List (ℕ × ℕ)) (at most slope higher : ℕ) → 1 ≤ at → most ≤ higher → slope ≤ higher
    → IsSlope (point_of (get_or pairs (at - 1) (0, 0))) (point_of (get_or pairs at (0, 0))) slope
    → ((k : ℕ) → suc k < at → IsSlope (point_of (get_or pairs k (0, 0))) (point_of (get_or pairs (suc k) (0, 0))) most)
    → (k : ℕ) → suc k < at + 1 → IsSlope (point_of (get_or pairs k (0, 0))) (point_of (get_or pairs (suc k) (0, 0))) higher
slopes-more pairs at most slope higher some low enough here below k lt = elim (cases_lt (suc k) at) [
  | inl before ↦ omega (arith, below k before, mul-le-mul_right ((get_or pairs (suc k) (0, 0)).0 - (get_or pairs k (0, 0)).0) low)
  | inr last ↦
      let e : suc k ≡ at = omega arith in
      let b : k ≡ at - 1 = omega arith in
      rw (e, b) (omega (arith, here, mul-le-mul_right ((get_or pairs at (0, 0)).0 - (get_or pairs (at - 1) (0, 0)).0) enough))
]
