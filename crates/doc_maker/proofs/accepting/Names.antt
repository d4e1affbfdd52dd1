-- The names of a made document: they are in range, and each stands once.
use Rattle.std.proofs.Common.{◌≡◌, ℕ, suc, ◌+◌, ◌^◌, ◌<◌, ◌≤◌, ◌%◌, ◌==◌, Bool, true, false, List, [], ◌∷◌, ◌++◌, length, decimal, refl, ap, ◌∙◌, arith}
use Rattle.std.specs.Prelude.{◌||◌}
use Rattle.std.specs.List.{list_all}
use Rattle.std.specs.Str.{bytes_eq}
use Rattle.std.proofs.lemmas.Bool.{le-leb, and_from}
use Rattle.std.proofs.lemmas.Bool.Decides.{same_from_decides, Decides-like, Decides-eqb, nat_tests}
use Rattle.std.proofs.lemmas.Fmt.{decimal_by_steps, decimal_injective, length-decimal-le}
use Rattle.std.proofs.lemmas.List.Folds.{list_all-append}
use Rattle.std.proofs.lemmas.Slice.Eq.{bytes_eq-Decides}
use Rattle.doc_passes.specs.Ranges.{is_name_byte, is_name}

-- a letter and a number
abbrev pub named : ℕ → ℕ → List ℕ
named letter number = letter ∷ decimal number

-- ---- in range

amid : (a b c d e : Bool) → c ≡ true → (a || b || c || d || e || false) ≡ true
amid true b c d e is = refl
amid false true c d e is = refl
amid false false c d e is = rw is refl

digit_byte : (digit : ℕ) → digit < 10 → is_name_byte (48 + digit) ≡ true
digit_byte digit small = grind (arith, nat_tests)

decimal_bytes : (number : ℕ) → number < 2 ^ 64 → list_all is_name_byte (decimal number) ≡ true
decimal_bytes number small = decimal_by_steps (λ _ digits. list_all is_name_byte digits ≡ true) one more number small where
  one : (digit : ℕ) → digit < 10 → list_all is_name_byte ((48 + digit) ∷ []) ≡ true
  one digit below = and_from (is_name_byte (48 + digit)) true (digit_byte digit below) refl

  more : (n : ℕ) (digits : List ℕ) → 10 ≤ n → list_all is_name_byte digits ≡ true → list_all is_name_byte (digits ++ ((48 + n % 10) ∷ [])) ≡ true
  more n digits above before = list_all-append is_name_byte digits ((48 + n % 10) ∷ []) ∙ and_from (list_all is_name_byte digits) _ before (one (n % 10) (omega arith))

pub is_name-named : (letter number : ℕ) → is_name_byte letter ≡ true → number < 100_000 → is_name (named letter number) ≡ true
unfolding is_name
is_name-named letter number byte small =
    let few : length (decimal number) ≤ 5 = length-decimal-le 5 number (omega arith) (omega arith) (omega arith) in
    rw (le-leb 1 (suc (length (decimal number))) (omega arith), le-leb (suc (length (decimal number))) 64 (omega arith), byte, decimal_bytes number (omega arith)) refl

-- ---- one name for each number

cons_tails : (x : ℕ) (xs ys : List ℕ) → x ∷ xs ≡ x ∷ ys → xs ≡ ys
cons_tails x xs ys same = cc

pub bytes_eq-named : (letter m n : ℕ) → m < 2 ^ 64 → n < 2 ^ 64 → bytes_eq (named letter m) (named letter n) ≡ (m == n)
bytes_eq-named letter m n small small' =
    same_from_decides (bytes_eq (named letter m) (named letter n)) (m == n) (bytes_eq-Decides (named letter m) (named letter n))
    (Decides-like (m == n) (λ same. ap (named letter) same) (λ same. decimal_injective m n small small' (cons_tails letter (decimal m) (decimal n) same)) (Decides-eqb m n))
