-- The last share at which a function is at most an amount.
use Rattle.std.proofs.Common.{◌≡◌, ℕ, zero, suc, ◌+◌, ◌-◌, ◌*◌, ◌/◌, ◌<◌, ◌≤◌, inl, inr, true, false, List, length, get_or, min, sym, ◌∙◌, ap, arith, le_refl, nat_le, leb-true, leb-false, le-leb, mul_comm}
use Rattle.std.proofs.Math.Nat.{mul-pos, mul-le-mul_right, le-div_iff_mul-le, div-lt_iff_lt-mul}
use Rattle.std.proofs.lemmas.Bool.{cases_lt}
use Rattle.std.specs.List.Sorted.{IsPartitionPoint, IsPartitionedBy}
use Rattle.std.proofs.lemmas.List.Sorted.{IsPartitionedBy-leb}
use Rattle.bwe_specs.specs.Bounded.{greatest_upto}
use Rattle.bwe_specs.specs.FunctionValue.{Point, IsFunction, function_value, between, last_amount}
use Rattle.bwe_specs.proofs.Bounds.{greatest-found, over_false}
use Rattle.bwe_specs.proofs.ShareFunctions.{between-start, function_value-is_share_function, share-mono}
use Rattle.bwe_specs.proofs.Points.{function-next, function-first, function-shares, function_value-inside, function_value-last, function_value-le}
use Rattle.bw_function.specs.BwFunction.{point_of, points_of}
use Rattle.bw_function.proofs.Places.{get-points, length-points, last-get}

-- how far after the first point the last share is whose value on the line is at most the amount
abbrev pub last_part : Point → Point → ℕ → ℕ
last_part from to amount = ((amount + 1 - from.amount) * (to.share - from.share) - 1) / (to.amount - from.amount)

some-product : (from to : Point) (amount : ℕ) → from.share < to.share → from.amount ≤ amount → 0 < (amount + 1 - from.amount) * (to.share - from.share)
some-product from to amount run low = mul-pos (omega arith) (omega arith)

line-low : (from to : Point) (amount share : ℕ) → from.share < to.share → from.amount ≤ amount → amount < to.amount
    → share ≤ from.share + last_part from to amount → between from to share ≤ amount
unfolding between
line-low from to amount share run low high le =
    let some = some-product from to amount run low in
    let width : 0 < to.share - from.share = omega arith in
    let rise : 0 < to.amount - from.amount = omega arith in
    let far : share - from.share ≤ last_part from to amount = omega arith in
    let product : (share - from.share) * (to.amount - from.amount) ≤ (amount + 1 - from.amount) * (to.share - from.share) - 1 = (le-div_iff_mul-le rise).0 far in
    let below : (to.amount - from.amount) * (share - from.share) < (amount + 1 - from.amount) * (to.share - from.share) =
    rw (mul_comm (to.amount - from.amount) (share - from.share)) (omega (arith, product, some)) in
    let part : (to.amount - from.amount) * (share - from.share) / (to.share - from.share) < amount + 1 - from.amount = (div-lt_iff_lt-mul width).1 below in
    omega (arith, part)

line-high : (from to : Point) (amount share : ℕ) → from.share < to.share → from.amount ≤ amount → amount < to.amount
    → from.share + last_part from to amount < share → amount < between from to share
unfolding between
line-high from to amount share run low high gt =
    let width : 0 < to.share - from.share = omega arith in
    let rise : 0 < to.amount - from.amount = omega arith in
    let not : between from to share ≤ amount → ⊥ = λ le.
    let part : (to.amount - from.amount) * (share - from.share) / (to.share - from.share) < amount + 1 - from.amount = omega (arith, le) in
    let below : (to.amount - from.amount) * (share - from.share) < (amount + 1 - from.amount) * (to.share - from.share) = (div-lt_iff_lt-mul width).0 part in
    let product : (share - from.share) * (to.amount - from.amount) ≤ (amount + 1 - from.amount) * (to.share - from.share) - 1 =
    rw (mul_comm (share - from.share) (to.amount - from.amount)) (omega (arith, below)) in
    let far : share - from.share ≤ last_part from to amount = (le-div_iff_mul-le rise).1 product in
    omega (arith, far, gt) in
    omega (arith, not)

-- it is before the second point
part-before : (from to : Point) (amount : ℕ) → from.share < to.share → from.amount ≤ amount → amount < to.amount
    → from.share + last_part from to amount < to.share
part-before from to amount run low high =
    let some = some-product from to amount run low in
    let rise : 0 < to.amount - from.amount = omega arith in
    let most : (amount + 1 - from.amount) * (to.share - from.share) ≤ (to.amount - from.amount) * (to.share - from.share) = mul-le-mul_right (to.share - from.share) (omega arith) in
    let below : (amount + 1 - from.amount) * (to.share - from.share) - 1 < (to.share - from.share) * (to.amount - from.amount) =
    rw (mul_comm (to.share - from.share) (to.amount - from.amount)) (omega (arith, most, some)) in
    let part : last_part from to amount < to.share - from.share = (div-lt_iff_lt-mul rise).1 below in
    omega (arith, part)

-- on a point's share the value is the point's amount
value-at : (points : List Point) (top i : ℕ) (d : Point) → IsFunction points top → i < length points → function_value points (get_or points i d).share ≡ (get_or points i d).amount
value-at points top i d is lt =
    elim (cases_lt (suc i) (length points)) [
      | inl l ↦
          function_value-inside points top (get_or points i d).share i d is l (le_refl _) (function-next points top i d is l).0
          ∙ between-start (get_or points i d) (get_or points (suc i) d)
      | inr ge ↦ function_value-last points top (get_or points i d).share i d is (omega arith) (le_refl _)
    ]

grows : (points : List Point) (top low high : ℕ) → IsFunction points top → low ≤ high → function_value points low ≤ function_value points high
grows points top low high is le = share-mono high (function_value points) (function_value-is_share_function points top high is) low high le (le_refl high)

-- amounts never fall along the pairs
pub amounts-grow : (pairs : List (ℕ × ℕ)) (top : ℕ) → IsFunction (points_of pairs) top → (i j : ℕ) (d : ℕ × ℕ) → i ≤ j → j < length pairs → (get_or pairs i d).1 ≤ (get_or pairs j d).1
amounts-grow pairs top is i j d le lt =
    let size = length-points pairs in
    let shares = function-shares (points_of pairs) top i j (point_of d) is le (omega (arith, size)) in
    omega (
      arith,
      ap (λ p. p.amount) (get-points pairs i d),
      ap (λ p. p.amount) (get-points pairs j d),
      value-at (points_of pairs) top i (point_of d) is (omega (arith, size)),
      value-at (points_of pairs) top j (point_of d) is (omega (arith, size)),
      grows (points_of pairs) top _ _ is shares,
    )

pub amounts-partitioned : (pairs : List (ℕ × ℕ)) (top amount : ℕ) → IsFunction (points_of pairs) top → IsPartitionedBy (λ pair. nat_le pair.1 amount) pairs
amounts-partitioned pairs top amount is = IsPartitionedBy-leb (λ pair. pair.1) pairs amount (amounts-grow pairs top is)

-- the number of points with at most an amount
pub record IsUpTo (pairs : List (ℕ × ℕ)) (amount after : ℕ) : Type 0 where
  pub some : 1 ≤ after
  pub within : after ≤ length pairs
  pub low : (get_or pairs (after - 1) (0, 0)).1 ≤ amount
  pub high : after < length pairs → amount < (get_or pairs after (0, 0)).1
  pub rise : after < length pairs → (get_or pairs (after - 1) (0, 0)).0 < (get_or pairs after (0, 0)).0

starts : (pairs : List (ℕ × ℕ)) (top : ℕ) → IsFunction (points_of pairs) top → function_value (points_of pairs) 0 ≡ 0
starts pairs top is = (function_value-is_share_function (points_of pairs) top top is).starts

pub upto-is : (pairs : List (ℕ × ℕ)) (top amount after : ℕ) → IsFunction (points_of pairs) top → after ≤ length pairs
    → IsPartitionPoint (λ pair. nat_le pair.1 amount ≡ true) (λ pair. nat_le pair.1 amount ≡ false) pairs after → IsUpTo pairs amount after
upto-is pairs top amount after is within at =
    let first = function-first (points_of pairs) top (point_of (0, 0)) is in
    let size = length-points pairs in
    let zero_first : (get_or pairs 0 (0, 0)).1 ≡ 0 =
    ap (λ p. p.amount) (sym (get-points pairs 0 (0, 0))) ∙ sym (value-at (points_of pairs) top 0 (point_of (0, 0)) is first.0)
    ∙ ap (function_value (points_of pairs)) first.1 ∙ starts pairs top is in
    let some : 1 ≤ after = go after at zero_first (omega (arith, first.0, size)) in
    record {
      some = some;
      within = within;
      low = leb-true _ _ (at.0 (after - 1) (0, 0) (omega arith) (omega arith));
      high = λ lt. leb-false _ _ (at.1 after (0, 0) (le_refl after) lt);
      rise = λ lt.
          let e : suc (after - 1) ≡ after = omega arith in
          let next = (function-next (points_of pairs) top (after - 1) (point_of (0, 0)) is (omega (arith, e, size))).0 in
          let next1 : (get_or (points_of pairs) (after - 1) (point_of (0, 0))).share < (get_or (points_of pairs) after (point_of (0, 0))).share = rw e at next in
          omega (arith, ap (λ p. p.share) (get-points pairs (after - 1) (0, 0)), ap (λ p. p.share) (get-points pairs after (0, 0)), next1);
    } where
      go : (after : ℕ) → IsPartitionPoint (λ pair. nat_le pair.1 amount ≡ true) (λ pair. nat_le pair.1 amount ≡ false) pairs after → (get_or pairs 0 (0, 0)).1 ≡ 0 → 0 < length pairs → 1 ≤ after
      go zero at start some = absurd (omega (arith, leb-false _ _ (at.1 0 (0, 0) (le_refl 0) some)))
      go (suc n) at start some = omega arith

-- a last share, cut at the top
last-cut : (f : ℕ → ℕ) (amount top last : ℕ) → f 0 ≤ amount → ((low high : ℕ) → low ≤ high → f low ≤ f high) → f last ≤ amount → amount < f (suc last)
    → min last top ≡ greatest_upto top (λ share. nat_le (f share) amount)
last-cut f amount top last start grow fits over =
    sym (greatest-found top (λ share. nat_le (f share) amount) (min last top) (le-leb (f 0) amount start) (omega arith)
    (le-leb (f (min last top)) amount (omega (arith, grow (min last top) last (omega arith), fits)))
    (λ share above within. over_false (f share) amount (omega (arith, grow (suc last) share (omega (arith, above, within)), over))))

-- between two points it is on their line
pub last-inside : (pairs : List (ℕ × ℕ)) (function_top top amount after : ℕ) → IsFunction (points_of pairs) function_top → IsUpTo pairs amount after → after < length pairs
    → min ((get_or pairs (after - 1) (0, 0)).0 + last_part (point_of (get_or pairs (after - 1) (0, 0))) (point_of (get_or pairs after (0, 0))) amount) top
    ≡ greatest_upto top (λ share. nat_le (function_value (points_of pairs) share) amount)
last-inside pairs function_top top amount after is at lt =
    let points = points_of pairs in
    let from = point_of (get_or pairs (after - 1) (0, 0)) in
    let to = point_of (get_or pairs after (0, 0)) in
    let last = from.share + last_part from to amount in
    let size = length-points pairs in
    let e : suc (after - 1) ≡ after = omega (arith, at.some) in
    let first : get_or points (after - 1) (point_of (0, 0)) ≡ from = get-points pairs (after - 1) (0, 0) in
    let second : get_or points (suc (after - 1)) (point_of (0, 0)) ≡ to = ap (λ k. get_or points k (point_of (0, 0))) e ∙ get-points pairs after (0, 0) in
    let before : from.share + last_part from to amount < to.share = part-before from to amount (at.rise lt) at.low (at.high lt) in
    let inside : (share : ℕ) → from.share ≤ share → share < to.share → function_value points share ≡ between from to share =
    λ share low high.
    function_value-inside points function_top share (after - 1) (point_of (0, 0)) is (omega (arith, e, size)) (omega (arith, ap (λ p. p.share) first)) (omega (arith, ap (λ p. p.share) second))
    ∙ ap (λ p. between p (get_or points (suc (after - 1)) (point_of (0, 0))) share) first ∙ ap (λ p. between from p share) second in
    let fits : function_value points last ≤ amount =
    omega (arith, inside last (omega arith) before, line-low from to amount last (at.rise lt) at.low (at.high lt) (le_refl last)) in
    let over : amount < function_value points (suc last) =
    elim (cases_lt (suc last) to.share) [
      | inl l ↦ omega (arith, inside (suc last) (omega arith) l, line-high from to amount (suc last) (at.rise lt) at.low (at.high lt) (omega arith))
      | inr ge ↦
          let same : suc last ≡ to.share = omega (arith, before) in
          let value : function_value points to.share ≡ to.amount =
          ap (λ p. function_value points p.share) (sym (get-points pairs after (0, 0))) ∙ value-at points function_top after (point_of (0, 0)) is (omega (arith, size)) ∙ ap (λ p. p.amount) (get-points pairs after (0, 0)) in
          omega (arith, ap (function_value points) same, value, at.high lt)
    ] in
    last-cut (function_value points) amount top last (omega (arith, starts pairs function_top is)) (λ low high le. grows points function_top low high is le) fits over

-- after all points it is the top
pub last-after : (pairs : List (ℕ × ℕ)) (function_top top amount after : ℕ) → IsFunction (points_of pairs) function_top → IsUpTo pairs amount after → length pairs ≤ after
    → top ≡ greatest_upto top (λ share. nat_le (function_value (points_of pairs) share) amount)
last-after pairs function_top top amount after is at end =
    let e : after ≡ length pairs = omega (arith, at.within) in
    let last : last_amount (points_of pairs) ≤ amount = omega (arith, last-get pairs (0, 0) (omega (arith, at.some, at.within)), at.low, ap (λ k. (get_or pairs (k - 1) (0, 0)).1) e) in
    let all : (share : ℕ) → function_value (points_of pairs) share ≤ amount = λ share. omega (arith, function_value-le (points_of pairs) function_top share is, last) in
    sym (greatest-found top (λ share. nat_le (function_value (points_of pairs) share) amount) top (le-leb _ amount (all 0)) (le_refl top) (le-leb _ amount (all top)) (λ share above within. absurd (omega arith)))
