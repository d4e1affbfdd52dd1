-- The bytes of a printed number.
use Rattle.std.proofs.Common.{◌≡◌, ◌<◌, ◌≤◌, ◌^◌, ◌==◌, ℕ, true, false, List, [], ◌∷◌, decimal, arith, All}
use Rattle.std.specs.Prelude.{nat_le}
use Rattle.std.specs.Char.{is_ascii_digit}
use Rattle.std.specs.Str.{all_ascii_digits}
use Rattle.std.proofs.lemmas.Bool.{and_parts, leb-true, ne_eqb}
use Rattle.std.proofs.lemmas.List.Elements.{All-nil, All-cons}
use Rattle.std.proofs.lemmas.Fmt.{digits_decimal}
use Rattle.text_scan.proofs.NumberFacts.{ascii_numerals}

is_ascii_digit-low : (byte : ℕ) → is_ascii_digit byte ≡ true → 48 ≤ byte
is_ascii_digit-low byte is = leb-true 48 byte (and_parts (nat_le 48 byte) (nat_le byte 57) is).0

-- no byte of a printed number is one below 48
pub number_has_no : (byte number : ℕ) → byte < 48 → number < 2 ^ 64 → All (λ b. (b == byte) ≡ false) (decimal number)
number_has_no byte number low small = none (decimal number) (digits_decimal ascii_numerals number small) where
  none : (digits : List ℕ) → all_ascii_digits digits ≡ true → All (λ b. (b == byte) ≡ false) digits
  none [] all = All-nil (λ b. (b == byte) ≡ false)
  none (digit ∷ digits) all =
      let parts = and_parts (is_ascii_digit digit) (all_ascii_digits digits) all in
      All-cons (λ b. (b == byte) ≡ false) digit digits (ne_eqb digit byte (λ same. absurd (omega (arith, same, low, is_ascii_digit-low digit parts.0)))) (none digits parts.1)
