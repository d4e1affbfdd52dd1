-- How often a width can double below a bound, and how often it can be halved.
use Rattle.std.proofs.Common.{◌≡◌, ℕ, zero, suc, ◌+◌, ◌*◌, ◌^◌, ◌<◌, ◌≤◌, arith, pow_mono, pow-suc, inl, inr, add-one}
use Rattle.std.proofs.Math.Pow.{pow-lt}
use Rattle.std.proofs.lemmas.Bool.{cases_lt}

-- one doubling more
pub double : (done width : ℕ) → width ≡ 2 ^ done → width * 2 ≡ 2 ^ (done + 1)
double done width is = rw (add-one done, pow-suc 2 done) (omega (arith, is))

-- half of a width below a power of 2 is below the power before
pub halved_below : (width half halves : ℕ) → 1 ≤ width → 2 * half ≤ width → width < 2 ^ halves
    → (rest : ℕ) × (halves ≡ rest + 1) × (half < 2 ^ rest)
halved_below width half zero some less below = absurd (omega arith)
halved_below width half (suc rest) some less below = (rest, omega arith, omega (arith, pow-suc 2 rest))

-- a power of 2 up to the greatest share
pub few_doublings : (done : ℕ) → 2 ^ done ≤ 1_000_000_000 → done ≤ 29
few_doublings done bound =
    elim (cases_lt done 30) [
      | inl lt ↦ omega arith
      | inr ge ↦ let power : 2 ^ 30 ≤ 2 ^ done = pow_mono ge in absurd (omega arith)
    ]

-- powers in order have exponents in order
pub fewer_doublings : (done doublings : ℕ) → 2 ^ done < 2 ^ doublings → done < doublings
fewer_doublings done doublings lt =
    elim (cases_lt done doublings) [
      | inl less ↦ less
      | inr ge ↦ let power : 2 ^ doublings ≤ 2 ^ done = pow_mono ge in absurd (omega arith)
    ]

pub no_more_doublings : (done doublings : ℕ) → 2 ^ done ≤ 2 ^ doublings → done ≤ doublings
no_more_doublings done doublings le =
    elim (cases_lt doublings done) [
      | inl lt ↦ let power : 2 ^ doublings < 2 ^ done = pow-lt lt in absurd (omega arith)
      | inr ge ↦ ge
    ]
