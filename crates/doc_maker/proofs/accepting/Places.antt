-- Each name of a made document that refers to another stands among the names, at its place.
use Rattle.std.proofs.Common.{inl, inr, ◌≡◌, ℕ, ◌+◌, ◌<◌, ◌≤◌, ◌==◌, true, List, [], ◌∷◌, length, map, get_or, Ok, refl, sym, ap, ◌∙◌, arith}
use Rattle.std.specs.Prelude.{All}
use Rattle.std.specs.List.{Contains, position_or_len}
use Rattle.std.specs.Str.{bytes_eq}
use Rattle.std.proofs.lemmas.Bool.{eqb-true, eq-eqb, ne_eqb, lt-ltb, cases_lt}
use Rattle.std.proofs.lemmas.List.{length-map}
use Rattle.std.proofs.lemmas.List.Elements.{All-head, All-tail, All-weaker}
use Rattle.std.proofs.lemmas.List.FromFn.{length-range_with_len, get_or-range_with_len}
use Rattle.std.proofs.lemmas.List.Sums.{position_or_len_is, fails_before_first, passes_at_first}
use Rattle.bwe_specs.specs.Reports.{numbers}
use Rattle.doc_passes.specs.Names.{number_in}
use Rattle.doc_maker.proofs.accepting.Walks.{numbers_below, contains_number}
use Rattle.doc_maker.proofs.accepting.Names.{named, bytes_eq-named}

-- the place of a number
abbrev place_in : List ℕ → ℕ → ℕ
place_in numbers number = position_or_len (λ other. number == other) numbers

same_place : (letter number : ℕ) (others : List ℕ) → number < 100_000 → All (λ other. other < 100_000) others
    → position_or_len (bytes_eq (named letter number)) (map (named letter) others) ≡ place_in others number
same_place letter number [] small known = refl
same_place letter number (other ∷ others) small known =
    rw (bytes_eq-named letter number other (omega arith) (omega (arith, All-head (λ other. other < 100_000) other others known)), same_place letter number others small (All-tail (λ other. other < 100_000) other others known)) refl

-- a number that stands in a list has a place there, and stands at it
pub place_within : (number : ℕ) (others : List ℕ) → Contains others number → place_in others number < length others
place_within number others found = elim (cases_lt (place_in others number) (length others)) as (λ _. place_in others number < length others) [
  | inl within ↦ within
  | inr past ↦
      let fails = fails_before_first (λ other. number == other) others found.0 number (omega (arith, found.1)) in
      let passes : (number == get_or others found.0 number) ≡ true = eq-eqb number (get_or others found.0 number) (sym found.2) in
      absurd (cc (fails, passes))
]

pub stands_at_place : (number : ℕ) (others : List ℕ) (d : ℕ) → Contains others number → get_or others (place_in others number) d ≡ number
stands_at_place number others d found = sym (eqb-true number (get_or others (place_in others number) d) (passes_at_first (λ other. number == other) others d (place_within number others found)))

pub number_in-named : (letter number : ℕ) (others : List ℕ) → number < 100_000 → All (λ other. other < 100_000) others → Contains others number
    → number_in (map (named letter) others) (named letter number) ≡ Ok (place_in others number)
unfolding number_in
number_in-named letter number others small known found =
    rw (same_place letter number others small known, length-map others (named letter), lt-ltb (place_in others number) (length others) (place_within number others found)) refl

pub place_in-numbers : (n number : ℕ) → number < n → place_in (numbers n) number ≡ number
place_in-numbers n number below =
    position_or_len_is (λ other. number == other) (numbers n) number 0 (omega (arith, length-range_with_len 0 n))
    (λ k earlier. ap (λ other. number == other) (get_or-range_with_len 0 n k 0 (omega arith)) ∙ ne_eqb number (0 + k) (λ same. omega arith))
    (λ within. ap (λ other. number == other) (get_or-range_with_len 0 n number 0 below) ∙ eq-eqb number (0 + number) (omega arith))

pub number_in-numbers : (letter n number : ℕ) → n ≤ 100_000 → number < n → number_in (map (named letter) (numbers n)) (named letter number) ≡ Ok number
number_in-numbers letter n number few below =
    number_in-named letter number (numbers n) (omega arith) (All-weaker (λ other. other < n) (λ other. other < 100_000) (λ other small. omega arith) (numbers n) (numbers_below n)) (contains_number n number below)
    ∙ ap Ok (place_in-numbers n number below)
