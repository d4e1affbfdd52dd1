-- The parts that are found are those of the format's sentence.
use Rattle.std.proofs.Common.{◌≡◌, ℕ, ◌+◌, ◌-◌, ◌^◌, ◌<◌, ◌≤◌, drop-cons, ◌⊎◌, inl, inr, Bool, true, false, cond, ◌&&◌, ◌==◌, List, [], ◌∷◌, ◌++◌, length, get_or, take, drop, Option, Some, None, refl, sym, ap, subst, ◌∙◌, nat_lt, nat_le, arith, add-one, length-append}
use Rattle.std.specs.Prelude.{option_and_then, position, IfSome}
use Rattle.std.specs.Char.{is_ascii_digit}
use Rattle.std.specs.List.{position_or_len}
use Rattle.std.specs.Str.{all_ascii_digits}
use Rattle.std.specs.Str.Parse.{digits_value}
use Rattle.std.proofs.Math.Seq.{take-append_seam}
use Rattle.std.proofs.lemmas.Bool.{eqb-true, ltb-false, lt-ltb, leb-true, le-leb, lt-leb, ne_eqb, and_parts}
use Rattle.std.proofs.lemmas.List.{take-append-drop, length-take-le}
use Rattle.std.proofs.lemmas.List.Quantifiers.{position-Some}
use Rattle.two_part.specs.declared.Parts.{Parts}
use Rattle.text_scan.specs.Numbers.{is_number, number_of}
use Rattle.two_part.specs.TwoPart.{IsTwoPart, AreParts, parts_behind, parts_within, parts_of}

abbrev is_line_feed : ℕ → Bool
is_line_feed byte = byte == 10

next_digit : (digits : List ℕ) (i : ℕ) → i < length digits → drop i digits ≡ get_or digits i 0 ∷ drop (i + 1) digits
next_digit digits i l = rw add-one (drop-cons digits i 0 l)

-- ---- what the call finds

pub no_line_feed : (bytes : List ℕ) → position is_line_feed bytes ≡ None → None ≡ parts_of bytes
unfolding parts_of
no_line_feed bytes e = sym (ap (option_and_then (λ line_feed. parts_within bytes (take line_feed bytes))) e)

at_line_feed : (bytes : List ℕ) (line_feed : ℕ) → position is_line_feed bytes ≡ Some line_feed → parts_within bytes (take line_feed bytes) ≡ parts_of bytes
unfolding parts_of
at_line_feed bytes line_feed e = sym (ap (option_and_then (λ line_feed. parts_within bytes (take line_feed bytes))) e)

-- a number that 64 bits do not hold is more than all bytes
no_number : (bytes digits : List ℕ) → length bytes < 2 ^ 64 → number_of digits ≡ None → None ≡ parts_within bytes digits
unfolding number_of parts_within
no_number bytes digits short e = go (is_number digits) (nat_lt (digits_value 10 digits) 18446744073709551616) refl refl
  where
    go : (a b : Bool) → is_number digits ≡ a → nat_lt (digits_value 10 digits) 18446744073709551616 ≡ b → None ≡ parts_within bytes digits
    go false b h k = rw h refl
    go true true h k = absurd (let f : Some (digits_value 10 digits) ≡ None = sym (rw (h, k) refl) ∙ e in cc)
    go true false h k = rw (h, lt-leb (length digits + 1 + digits_value 10 digits) (length bytes) (omega (arith, ltb-false (digits_value 10 digits) 18446744073709551616 k))) refl

a_number : (digits : List ℕ) (number : ℕ) → number_of digits ≡ Some number → (is_number digits ≡ true) × (digits_value 10 digits ≡ number)
unfolding number_of
a_number digits number e = go (is_number digits) (nat_lt (digits_value 10 digits) 18446744073709551616) refl refl
  where
    go : (a b : Bool) → is_number digits ≡ a → nat_lt (digits_value 10 digits) 18446744073709551616 ≡ b → (is_number digits ≡ true) × (digits_value 10 digits ≡ number)
    go false b h k = absurd (let f : None ≡ Some number = sym (rw h refl) ∙ e in cc)
    go true false h k = absurd (let f : None ≡ Some number = sym (rw (h, k) refl) ∙ e in cc)
    go true true h k = let f : Some (digits_value 10 digits) ≡ Some number = sym (rw (h, k) refl) ∙ e in (h, cc)

number_within : (bytes digits : List ℕ) (number : ℕ) (b : Bool) → number_of digits ≡ Some number → nat_le (length digits + 1 + number) (length bytes) ≡ b → parts_within bytes digits ≡ cond b (Some (parts_behind digits number)) None
unfolding parts_within
number_within bytes digits number b e h = let is = a_number digits number e in rw (is.0, is.1, h) refl

length_of : (bytes : List ℕ) (line_feed : ℕ) → position is_line_feed bytes ≡ Some line_feed → length (take line_feed bytes) ≡ line_feed
length_of bytes line_feed e = length-take-le line_feed bytes (omega (arith, (position-Some is_line_feed bytes line_feed 0 e).0))

pub refused_number : (bytes : List ℕ) (line_feed : ℕ) → length bytes < 2 ^ 64 → position is_line_feed bytes ≡ Some line_feed → number_of (take line_feed bytes) ≡ None → None ≡ parts_of bytes
refused_number bytes line_feed short e none = no_number bytes (take line_feed bytes) short none ∙ at_line_feed bytes line_feed e

pub too_few_bytes : (bytes : List ℕ) (line_feed number : ℕ) → position is_line_feed bytes ≡ Some line_feed → number_of (take line_feed bytes) ≡ Some number → length bytes - (line_feed + 1) < number → None ≡ parts_of bytes
too_few_bytes bytes line_feed number e is few =
    sym (number_within bytes (take line_feed bytes) number false is (lt-leb (length (take line_feed bytes) + 1 + number) (length bytes) (omega (arith, length_of bytes line_feed e)))) ∙ at_line_feed bytes line_feed e

pub enough_bytes : (bytes : List ℕ) (line_feed number : ℕ) → position is_line_feed bytes ≡ Some line_feed → number_of (take line_feed bytes) ≡ Some number → number ≤ length bytes - (line_feed + 1)
    → Some (record { start = line_feed + 1; end = line_feed + 1 + number }) ≡ parts_of bytes
enough_bytes bytes line_feed number e is enough =
    ap (λ (n : ℕ). let parts : Parts = record { start = n + 1; end = n + 1 + number } in Some parts) (sym (length_of bytes line_feed e))
    ∙ sym (number_within bytes (take line_feed bytes) number true is (le-leb (length (take line_feed bytes) + 1 + number) (length bytes) (omega (arith, length_of bytes line_feed e, (position-Some is_line_feed bytes line_feed 0 e).0))))
    ∙ at_line_feed bytes line_feed e

-- ---- the sentence

-- the digits that are found, and what is known of them
record Found (bytes : List ℕ) (parts : Parts) : Type 0 where
  line_feed : ℕ
  stands : position is_line_feed bytes ≡ Some line_feed
  number : is_number (take line_feed bytes) ≡ true
  follow : length (take line_feed bytes) + 1 + digits_value 10 (take line_feed bytes) ≤ length bytes
  are : parts ≡ parts_behind (take line_feed bytes) (digits_value 10 (take line_feed bytes))

found_within : (bytes digits : List ℕ) (parts : Parts) → parts_within bytes digits ≡ Some parts
    → (is_number digits ≡ true) × (length digits + 1 + digits_value 10 digits ≤ length bytes) × (parts ≡ parts_behind digits (digits_value 10 digits))
unfolding parts_within
found_within bytes digits parts e = go (is_number digits) (nat_le (length digits + 1 + digits_value 10 digits) (length bytes)) refl refl
  where
    go : (a b : Bool) → is_number digits ≡ a → nat_le (length digits + 1 + digits_value 10 digits) (length bytes) ≡ b
        → (is_number digits ≡ true) × (length digits + 1 + digits_value 10 digits ≤ length bytes) × (parts ≡ parts_behind digits (digits_value 10 digits))
    go false b h k = absurd (let f : None ≡ Some parts = sym (rw h refl) ∙ e in cc)
    go true false h k = absurd (let f : None ≡ Some parts = sym (rw (h, k) refl) ∙ e in cc)
    go true true h k = let f : Some (parts_behind digits (digits_value 10 digits)) ≡ Some parts = sym (rw (h, k) refl) ∙ e in (h, leb-true (length digits + 1 + digits_value 10 digits) (length bytes) k, cc)

found_in : (bytes : List ℕ) (parts : Parts) → parts_of bytes ≡ Some parts → Found bytes parts
unfolding parts_of
found_in bytes parts e = go (position is_line_feed bytes) refl
  where
    go : (at : Option ℕ) → position is_line_feed bytes ≡ at → Found bytes parts
    go None h = absurd (let f : None ≡ Some parts = no_line_feed bytes h ∙ e in cc)
    go (Some line_feed) h =
        let is = found_within bytes (take line_feed bytes) parts (at_line_feed bytes line_feed h ∙ e) in
        record { line_feed = line_feed; stands = h; number = is.0; follow = is.1; are = is.2 }

-- the bytes round a place
round : (bytes : List ℕ) (place : ℕ) → place < length bytes → bytes ≡ take place bytes ++ get_or bytes place 0 ∷ drop (place + 1) bytes
round bytes place l = sym (take-append-drop place bytes) ∙ ap (λ (rest : List ℕ). take place bytes ++ rest) (next_digit bytes place l)

two_part : (bytes : List ℕ) (line_feed : ℕ) → position is_line_feed bytes ≡ Some line_feed → is_number (take line_feed bytes) ≡ true
    → length (take line_feed bytes) + 1 + digits_value 10 (take line_feed bytes) ≤ length bytes
    → IsTwoPart bytes (take line_feed bytes) (take (digits_value 10 (take line_feed bytes)) (drop (line_feed + 1) bytes)) (drop (digits_value 10 (take line_feed bytes)) (drop (line_feed + 1) bytes))
two_part bytes line_feed e number follow =
    let digits = take line_feed bytes in
    let tests = and_parts (all_ascii_digits digits) (nat_le 1 (length digits) && nat_le (length digits) 20) number in
    let lengths = and_parts (nat_le 1 (length digits)) (nat_le (length digits) 20) tests.1 in
    let at = position-Some is_line_feed bytes line_feed 0 e in
    record {
      in_order = round bytes line_feed at.0 ∙ ap (λ (tail : List ℕ). digits ++ tail) (ap (λ (byte : ℕ). byte ∷ drop (line_feed + 1) bytes) (eqb-true (get_or bytes line_feed 0) 10 at.1) ∙ ap (λ (tail : List ℕ). 10 ∷ tail) (sym (take-append-drop (digits_value 10 digits) (drop (line_feed + 1) bytes))));
      digits_alone = tests.0;
      some_digit = leb-true 1 (length digits) lengths.0;
      few_digits = leb-true (length digits) 20 lengths.1;
      says_length = sym (length-take-le (digits_value 10 digits) (drop (line_feed + 1) bytes) (omega (arith, length_of bytes line_feed e, Rattle.std.proofs.Common.length-drop (line_feed + 1) bytes)));
    }

found_some : (bytes : List ℕ) (parts : Parts) → parts_of bytes ≡ Some parts → AreParts bytes parts
found_some bytes parts e =
    let found = found_in bytes parts e in
    let digits = take found.line_feed bytes in
    let whole = two_part bytes found.line_feed found.stands found.number found.follow in
    record {
      digits = digits;
      document = take (digits_value 10 digits) (drop (found.line_feed + 1) bytes);
      rest = drop (digits_value 10 digits) (drop (found.line_feed + 1) bytes);
      two_part = whole;
      are = found.are ∙ ap (parts_behind digits) whole.says_length;
    }

pub parts_found : (bytes : List ℕ) (r : Option Parts) → r ≡ parts_of bytes → IfSome r (AreParts bytes)
parts_found bytes None e = tt
parts_found bytes (Some parts) e = found_some bytes parts (sym e)

-- the first line feed stands behind the digits
pub behind_digits : (digits more : List ℕ) → all_ascii_digits digits ≡ true → position_or_len is_line_feed (digits ++ 10 ∷ more) ≡ length digits
behind_digits [] more e = refl
behind_digits (digit ∷ digits) more e =
    let parts = and_parts (is_ascii_digit digit) (all_ascii_digits digits) e in
    let range = and_parts (nat_le 48 digit) (nat_le digit 57) parts.0 in
    rw (ne_eqb digit 10 (λ k. omega (arith, leb-true 48 digit range.0)), behind_digits digits more parts.1) (omega arith)

complete_in_order : (digits document rest : List ℕ) → IsTwoPart (digits ++ 10 ∷ (document ++ rest)) digits document rest → parts_of (digits ++ 10 ∷ (document ++ rest)) ≡ Some (parts_behind digits (length document))
unfolding parts_of parts_within
complete_in_order digits document rest two =
    let bytes = digits ++ 10 ∷ (document ++ rest) in
    let whole : length bytes ≡ length digits + (length (document ++ rest) + 1) = omega (arith, length-append digits (10 ∷ (document ++ rest))) in
    let at = behind_digits digits (document ++ rest) two.digits_alone in
    rw (
      at,
      lt-ltb (length digits) (length bytes) (omega arith),
      take-append_seam digits (10 ∷ (document ++ rest)),
      two.digits_alone,
      le-leb 1 (length digits) two.some_digit,
      le-leb (length digits) 20 two.few_digits,
      two.says_length,
      le-leb (length digits + 1 + length document) (length bytes) (omega (arith, length-append document rest)),
    ) refl

pub parts_complete : (bytes digits document rest : List ℕ) → IsTwoPart bytes digits document rest → parts_of bytes ≡ Some (parts_behind digits (length document))
parts_complete bytes digits document rest two =
    ap parts_of two.in_order ∙ complete_in_order digits document rest (subst (λ (b : List ℕ). IsTwoPart b digits document rest) two.in_order two)
