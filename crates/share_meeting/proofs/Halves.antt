-- Two ends that are drawn together by looks: 28 anywhere between them, and 30 in the middle.
use Rattle.std.proofs.Common.{◌≡◌, ℕ, suc, ◌+◌, ◌*◌, ◌-◌, ◌^◌, ◌<◌, ◌≤◌, arith, pow-suc, inl, inr}
use Rattle.std.proofs.lemmas.Bool.{cases_lt}

half_of : (before rest low high low' high' : ℕ) → before ≡ suc rest → high ≤ low + 2 ^ before
    → 2 * high' + low ≤ 2 * low' + high + 1 → high' ≤ low' + 2 ^ rest
half_of before rest low high low' high' is within half =
    let power : 2 ^ before ≡ 2 ^ rest * 2 = rw is (pow-suc 2 rest) in omega arith

-- what is left between the ends is not too much for the looks to come
pub halves_left : (look low high low' high' : ℕ) → look < 58 → high' ≤ 1_000_000_001
    → (28 ≤ look → high ≤ low + 2 ^ (58 - look)) → (28 ≤ look → 2 * high' + low ≤ 2 * low' + high + 1)
    → 28 ≤ look + 1 → high' ≤ low' + 2 ^ (58 - (look + 1))
halves_left look low high low' high' lt small within half late =
    elim (cases_lt look 28) [
      | inl early ↦ let left : 58 - (look + 1) ≡ 30 = omega arith in rw left (omega arith)
      | inr ge ↦ half_of (58 - look) (58 - (look + 1)) low high low' high' (omega arith) (within ge) (half ge)
    ]
