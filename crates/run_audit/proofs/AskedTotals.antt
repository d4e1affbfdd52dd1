-- Totals, at the prefixes where they are asked for.
use Rattle.std.proofs.Common.{◌≡◌, ◌+◌, ◌<◌, ◌++◌, ℕ, Bool, true, false, List, [], ◌∷◌, length, get_or, set, take, arith, ap, sym, subst, ◌∙◌, inl, inr}
use Rattle.std.specs.List.{All}
use Rattle.std.proofs.lemmas.Bool.{cases_eq, cases_lt}
use Rattle.std.proofs.lemmas.List.{get_or-set_same, get_or-set_other, get_or_push, take_more}
use Rattle.std.proofs.Math.ListN.{get_or-append}
use Rattle.std.proofs.lemmas.List.Elements.{All-push}
use Rattle.run_audit.specs.Checks.{AreTotals}
use Rattle.run_audit.specs.declared.walk.Check.{Check}

-- one prefix more is asked for
still_asked : (asked : List Bool) (prefix other : ℕ) → prefix < length asked → get_or asked other false ≡ true → get_or (set asked prefix true) other false ≡ true
still_asked asked prefix other within was =
    elim (cases_eq other prefix) [
      | inl same ↦ ap (λ place. get_or (set asked prefix true) place false) same ∙ get_or-set_same asked prefix true false within
      | inr apart ↦ get_or-set_other asked prefix other true false apart ∙ was
    ]

pub asked_more : (asked : List Bool) (checks : List Check) (place : ℕ) (check : Check) → place < length checks → check ≡ get_or checks place check → check.prefix < length asked
    → All (λ check. get_or asked check.prefix false ≡ true) (take place checks)
    → All (λ other. get_or (set asked check.prefix true) other.prefix false ≡ true) (take (place + 1) checks)
asked_more asked checks place check within is below before =
    subst (All (λ other. get_or (set asked check.prefix true) other.prefix false ≡ true)) (sym (take_more checks place check within))
    (All-push (λ other. get_or (set asked check.prefix true) other.prefix false ≡ true) (take place checks) (get_or checks place check)
    (λ k d inside. still_asked asked check.prefix (get_or (take place checks) k d).prefix below (before k d inside))
    (subst (λ other. get_or (set asked check.prefix true) other.prefix false ≡ true) is (get_or-set_same asked check.prefix true false below)))

-- one total more
pub total_more : (asked : List Bool) (place : ℕ) (total_at : ℕ → ℕ) (totals : List ℕ) (next : ℕ) → length totals ≡ place
    → (get_or asked place false ≡ true → next ≡ total_at place) → AreTotals asked place total_at totals → AreTotals asked (place + 1) total_at (totals ++ next ∷ [])
total_more asked place total_at totals next count right before prefix below is =
    elim (cases_lt prefix place) [
      | inl earlier ↦ get_or-append totals (next ∷ []) 0 prefix (omega (arith, earlier, count)) ∙ before prefix earlier is
      | inr last ↦
          let same : prefix ≡ place = omega (arith, last, below) in
          get_or_push totals next 0 prefix (count ∙ sym same) ∙ right (subst (λ other. get_or asked other false ≡ true) same is) ∙ ap total_at (sym same)
    ]

-- the total of each check that asked for it
pub each_total : (asked : List Bool) (count : ℕ) (total_at : ℕ → ℕ) (totals : List ℕ) (checks : List Check) → AreTotals asked count total_at totals
    → All (λ check. check.prefix < count) checks → All (λ check. get_or asked check.prefix false ≡ true) checks
    → All (λ check. get_or totals check.prefix 0 ≡ total_at check.prefix) checks
each_total asked count total_at totals checks are below wanted k d within = are (get_or checks k d).prefix (below k d within) (wanted k d within)
