-- The numbers below a total that leave one rest, met by steps.
use Rattle.std.proofs.Common.{◌≡◌, ℕ, zero, suc, ◌+◌, ◌-◌, ◌*◌, ◌/◌, ◌%◌, ◌<◌, ◌≤◌, ◌==◌, Bool, true, false, List, [], ◌∷◌, refl, sym, ap, ◌∙◌, arith, eq-eqb}
use Rattle.std.proofs.lemmas.Bool.{ne_eqb}
use Rattle.std.proofs.Math.Nat.{mul-le-mul_left, add-mod_right}
use Rattle.std.specs.List.{filter, range_with_len}
use Rattle.bwe_specs.specs.Reports.{numbers}

-- no multiple of the divisor is a part of it above another multiple
between : (divisor a b more : ℕ) → 0 < more → more < divisor → divisor * b ≡ divisor * a + more → ⊥
between divisor a zero more some few e = omega arith
between divisor zero (suc b) more some few e = omega (arith, mul-le-mul_left divisor (zero_le b))
  where
    zero_le : (n : ℕ) → 1 ≤ suc n
    zero_le n = omega arith
between divisor (suc a) (suc b) more some few e = between divisor a b more some few (omega arith)

-- two numbers with one rest are not less than the divisor apart
pub apart : (divisor start more : ℕ) → 0 < more → more < divisor → (start + more) % divisor ≡ start % divisor → ⊥
apart divisor start more some few same = between divisor (start / divisor) ((start + more) / divisor) more some few (omega arith)

module _ (divisor rest total : ℕ) where
  abbrev leaves : ℕ → Bool
  leaves number = number % divisor == rest

  -- the numbers from `start` that leave the rest
  abbrev pub from : ℕ → List ℕ
  from start = filter leaves (range_with_len start (total - start))

  -- from the total on there are none
  pub over : (start : ℕ) → total ≤ start → from start ≡ []
  over start past = let none : total - start ≡ 0 = omega arith in rw none

  pub skips : (start : ℕ) → leaves start ≡ false → from start ≡ from (start + 1)
  skips start none = go (total - start) refl where
    go : (count : ℕ) → total - start ≡ count → filter leaves (range_with_len start count) ≡ from (start + 1)
    go zero e = let empty : total - (start + 1) ≡ 0 = omega arith in rw empty
    go (suc count) e = let left : total - (start + 1) ≡ count = omega arith in rw (left, none)

  pub passes : (steps start : ℕ) → ((number : ℕ) → start ≤ number → number < start + steps → leaves number ≡ false) → from start ≡ from (start + steps)
  passes zero start none = ap from (omega arith)
  passes (suc steps) start none =
      skips start (none start (omega arith) (omega arith))
      ∙ passes steps (start + 1) (λ number low high. none number (omega arith) (omega arith)) ∙ ap from (omega arith)

  -- none stands before the rest itself
  pub from-rest : rest < divisor → filter leaves (numbers total) ≡ from rest
  from-rest below =
      ap (λ count. filter leaves (range_with_len 0 count)) (omega arith)
      ∙ passes rest 0 (λ number low high. ne_eqb (number % divisor) rest (λ same. omega arith)) ∙ ap from (omega arith)

  -- the next one stands a whole divisor further on
  pub from-next : (start : ℕ) → 0 < divisor → start % divisor ≡ rest → start < total → from start ≡ start ∷ from (start + divisor)
  from-next start some leaves_rest below = go (total - start) refl where
    none : (number : ℕ) → start + 1 ≤ number → number < start + 1 + (divisor - 1) → leaves number ≡ false
    none number low high =
        ne_eqb (number % divisor) rest (λ same. apart divisor start (number - start) (omega arith) (omega arith)
        (ap (λ n. n % divisor) (omega arith) ∙ same ∙ sym leaves_rest))

    later : from (start + 1) ≡ from (start + divisor)
    later = passes (divisor - 1) (start + 1) none ∙ ap from (omega arith)

    go : (count : ℕ) → total - start ≡ count → filter leaves (range_with_len start count) ≡ start ∷ from (start + divisor)
    go zero e = absurd (omega arith)
    go (suc count) e =
        let here : leaves start ≡ true = eq-eqb (start % divisor) rest leaves_rest in
        let left : count ≡ total - (start + 1) = omega arith in
        rw (here, left) (ap (λ rest. start ∷ rest) later)

  pub stays : (start : ℕ) → start % divisor ≡ rest → (start + divisor) % divisor ≡ rest
  stays start h = add-mod_right start divisor ∙ h
