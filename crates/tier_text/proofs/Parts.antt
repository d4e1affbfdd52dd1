-- The first byte at fault of a part.
use Rattle.std.proofs.Common.{◌≡◌, ℕ, ◌+◌, ◌-◌, ◌<◌, ◌≤◌, true, false, not, nat_lt, List, length, slice_index, Some, None, All, sym, ap, ◌∙◌, arith, zero-add}
use Rattle.std.proofs.lemmas.Bool.{ltb-true, leb-true, and_parts, not-false, le-ltb, lt-ltb, cond-false, cond-true}
use Rattle.std.proofs.lemmas.List.FromFn.{length-map-range_with_len, get_or-map-range_with_len}
use Rattle.bwe_specs.proofs.Bounds.{lowest-none, none-lowest, some-lowest}
use Rattle.tier_text.specs.TierPart.{is_due, part_fault, tiers_in}

-- the first byte at fault
pub fault-found : (groups : ℕ) (part : List ℕ) (at : ℕ) → at < groups + 2 → is_due groups part at ≡ false → ((k : ℕ) → k < at → is_due groups part k ≡ true)
    → part_fault groups part ≡ Some at
unfolding part_fault
fault-found groups part at within here below =
    some-lowest (groups + 2) (λ at. not (is_due groups part at)) at
    (record { below = within; passes = ap not here; none_lower = λ k lt. ap not (below k lt) })

-- no fault where each byte is what is due
pub fault-none : (groups : ℕ) (part : List ℕ) → ((k : ℕ) → k < groups + 2 → is_due groups part k ≡ true) → part_fault groups part ≡ None
unfolding part_fault
fault-none groups part each = none-lowest (groups + 2) (λ at. not (is_due groups part at)) (λ k lt. ap not (each k lt))

-- without fault there is a digit for each group
pub digit-at : (groups : ℕ) (part : List ℕ) → part_fault groups part ≡ None → (group : ℕ) → group < groups
    → (group < length part) × (48 ≤ slice_index part group) × (slice_index part group < 56)
unfolding part_fault
digit-at groups part none group lt =
    let due : is_due groups part group ≡ true =
    not-false (is_due groups part group) (lowest-none (groups + 2) (λ at. not (is_due groups part at)) none group (omega arith)) in
    let inside = and_parts (nat_lt group (length part)) _ (sym (cond-false (nat_lt groups group) _ _ (le-ltb groups group (omega arith))) ∙ due) in
    let digit = and_parts _ _ (sym (cond-true (nat_lt group groups) _ _ (lt-ltb group groups lt)) ∙ inside.1) in
    (ltb-true group (length part) inside.0, leb-true 48 (slice_index part group) digit.0, ltb-true (slice_index part group) 56 digit.1)

-- and each tier is at most 7
pub tiers-small : (groups : ℕ) (part : List ℕ) (count : ℕ) → count ≤ groups → part_fault groups part ≡ None → All (λ tier. tier ≤ 7) (tiers_in count part)
tiers-small groups part count few none = λ k d lt.
    let within : k < count = omega (arith, length-map-range_with_len (λ group. slice_index part group - 48) 0 count) in
    let digit = digit-at groups part none k (omega arith) in
    omega (arith, get_or-map-range_with_len (λ group. slice_index part group - 48) 0 count k k d within (zero-add k), digit.1, digit.2)
