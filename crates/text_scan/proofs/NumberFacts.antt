-- What parsing gives is the number that digits are.
use Rattle.std.proofs.Common.{◌≡◌, ℕ, zero, suc, ◌<◌, ◌≤◌, ◌^◌, Bool, true, false, cond, inl, inr, List, [], ◌∷◌, length, get_or, Option, Some, None, decimal, refl, sym, ap, ◌∙◌, arith}
use Rattle.std.specs.Char.{is_ascii_digit}
use Rattle.std.specs.List.{list_all}
use Rattle.std.specs.Str.{all_ascii_digits, IsAscii, IsUtf8}
use Rattle.std.specs.Str.Parse.{digits_value, ParsesUnsigned}
use Rattle.std.specs.Prelude.{◌&&◌, nat_le, nat_lt, Result, Ok, Err}
use Rattle.std.proofs.lemmas.Bool.{cases_lt, lt-ltb, le-ltb, ltb-true, and_parts, leb-true, le-leb, ne_eqb}
use Rattle.std.proofs.lemmas.Fmt.{decimal-digits_value, decimal_digit, decimal_nonempty, digits_decimal, digits_value-decimal, first_decimal, length-decimal-le}
use Rattle.std.proofs.lemmas.List.{get_or_past}
use Rattle.std.proofs.lemmas.Str.{IsUtf8-from_ascii}
use Rattle.std.proofs.lemmas.Str.Parse.{IsNumeralModel, numerals_by_value, tells_all_ascii_digits, digit_at, parse_digits}
use Rattle.text_scan.specs.Numbers.{is_number, is_padded, number_of, printed_number_of}

pub ascii_numerals : IsNumeralModel (λ ds. all_ascii_digits ds ≡ true) (digits_value 10)
ascii_numerals = numerals_by_value (λ ds. all_ascii_digits ds ≡ true) tells_all_ascii_digits

digits_alone : (text : List ℕ) → is_number text ≡ true → all_ascii_digits text ≡ true
digits_alone text e = (and_parts (all_ascii_digits text) (nat_le 1 (length text) && nat_le (length text) 20) e).0

-- digits are ASCII, and so are text
are_ascii : (text : List ℕ) → all_ascii_digits text ≡ true → IsAscii text
are_ascii text e i = elim (cases_lt i (length text)) [
  | inl within ↦ let range = digit_at text i (ascii_numerals.to text e) within in omega (arith, range.1)
  | inr past ↦ omega (arith, get_or_past text i 0 past)
]

pub are_text : (text : List ℕ) → is_number text ≡ true → IsUtf8 text
are_text text e = IsUtf8-from_ascii text (are_ascii text (digits_alone text e))

pub parsed : {E : Type 0} (text : List ℕ) (number : ℕ) (r : Result ℕ E) → is_number text ≡ true → ParsesUnsigned 64 10 text r → r ≡ Ok number → Some number ≡ number_of text
unfolding number_of
parsed text number r e h is =
    let found = rw is at (parse_digits ascii_numerals 64 text r h (digits_alone text e)) in
    rw (e, lt-ltb (digits_value 10 text) 18446744073709551616 found.0.1) (ap Some found.1)

pub not_parsed : {E : Type 0} (text : List ℕ) (error : E) (r : Result ℕ E) → is_number text ≡ true → ParsesUnsigned 64 10 text r → r ≡ Err error → None ≡ number_of text
unfolding number_of
not_parsed text error r e h is =
    let lengths = and_parts (nat_le 1 (length text)) (nat_le (length text) 20) (and_parts (all_ascii_digits text) (nat_le 1 (length text) && nat_le (length text) 20) e).1 in
    let refused = rw is at (parse_digits ascii_numerals 64 text r h (digits_alone text e)) in
    elim (cases_lt (digits_value 10 text) 18446744073709551616) [
      | inl low ↦ absurd (refused (omega (arith, leb-true 1 (length text) lengths.0), low))
      | inr high ↦ rw (e, le-ltb (digits_value 10 text) 18446744073709551616 high) refl
    ]

pub each_digit : (text : List ℕ) → list_all (λ byte. is_ascii_digit byte) text ≡ all_ascii_digits text
each_digit [] = refl
each_digit (byte ∷ text) = ap (λ (b : Bool). is_ascii_digit byte && b) (each_digit text)

-- ---- numbers as they are printed

first_zero : (number : ℕ) → number < 2 ^ 64 → get_or (decimal number) 0 0 ≡ 48 → length (decimal number) ≡ 1
first_zero zero small is = ap length (decimal_digit 0 (omega arith))
first_zero (suc number) small is = absurd (omega (arith, first_decimal (suc number) (omega arith) small, is))

not_padded : (text : List ℕ) → (get_or text 0 0 ≡ 48 → length text ≡ 1) → is_padded text ≡ false
not_padded text one = elim (cases_lt 1 (length text)) [
  | inl long ↦ rw (lt-ltb 1 (length text) long) (ne_eqb (get_or text 0 0) 48 (λ zero. absurd (omega (arith, long, one zero))))
  | inr short ↦ rw (le-ltb 1 (length text) short) refl
]

-- a printed number is read as that number
pub number_printed : (number : ℕ) → number < 2 ^ 64 → printed_number_of (decimal number) ≡ Some number
unfolding printed_number_of number_of
number_printed number small =
    let digits : all_ascii_digits (decimal number) ≡ true = digits_decimal ascii_numerals number small in
    let some : nat_le 1 (length (decimal number)) ≡ true = le-leb 1 (length (decimal number)) (decimal_nonempty number small) in
    let few : nat_le (length (decimal number)) 20 ≡ true = le-leb (length (decimal number)) 20 (length-decimal-le 20 number (omega arith) (omega (arith, small)) small) in
    let value : digits_value 10 (decimal number) ≡ number = digits_value-decimal ascii_numerals number small in
    rw (not_padded (decimal number) (first_zero number small), digits, some, few, value, lt-ltb number 18446744073709551616 small) refl

-- what is read as a printed number is its print
pub number_read : (word : List ℕ) (number : ℕ) → printed_number_of word ≡ Some number → (word ≡ decimal number) × (number < 2 ^ 64)
unfolding printed_number_of number_of
number_read word number is = go (is_padded word) refl is
  where
    one_digit : is_padded word ≡ false → 1 ≤ length word → get_or word 0 0 ≡ 48 → length word ≡ 1
    one_digit whole some begins = elim (cases_lt 1 (length word)) [
      | inl long ↦ absurd (let padded : is_padded word ≡ true = rw (lt-ltb 1 (length word) long, begins) refl in let both : true ≡ false = sym padded ∙ whole in cc)
      | inr short ↦ omega (arith, some, short)
    ]

    read : is_padded word ≡ false → (b : Bool) → (is_number word && nat_lt (digits_value 10 word) 18446744073709551616) ≡ b
        → ◌≡◌ {A = Option ℕ} (cond b (Some (digits_value 10 word)) None) (Some number) → (word ≡ decimal number) × (number < 2 ^ 64)
    read whole false both e = absurd cc
    read whole true both e =
        let parts = and_parts (is_number word) (nat_lt (digits_value 10 word) 18446744073709551616) both in
        let lengths = and_parts (nat_le 1 (length word)) (nat_le (length word) 20) (and_parts (all_ascii_digits word) (nat_le 1 (length word) && nat_le (length word) 20) parts.0).1 in
        let some : 1 ≤ length word = leb-true 1 (length word) lengths.0 in
        let small : digits_value 10 word < 2 ^ 64 = ltb-true (digits_value 10 word) 18446744073709551616 parts.1 in
        let same : digits_value 10 word ≡ number = cc in (
          sym (decimal-digits_value ascii_numerals word (digits_alone word parts.0) some (one_digit whole some) small) ∙ ap (λ (n : ℕ). decimal n) same,
          omega (arith, same, small),
        )

    go : (b : Bool) → is_padded word ≡ b
        → ◌≡◌ {A = Option ℕ} (cond b None (cond (is_number word && nat_lt (digits_value 10 word) 18446744073709551616) (Some (digits_value 10 word)) None)) (Some number)
        → (word ≡ decimal number) × (number < 2 ^ 64)
    go true padded e = absurd cc
    go false whole e = read whole (is_number word && nat_lt (digits_value 10 word) 18446744073709551616) refl e
