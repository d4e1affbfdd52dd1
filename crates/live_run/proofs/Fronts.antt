-- What the first bytes of an input say of its front.
use Rattle.std.proofs.Common.{◌≡◌, ◌∙◌, ℕ, suc, ◌+◌, ◌<◌, ◌≤◌, Bool, true, false, ◌&&◌, ◌==◌, List, [], ◌∷◌, ◌++◌, length, get_or, take, drop, Option, Some, None, refl, sym, ap, subst, nat_lt, nat_le, arith, append_assoc, length-append}
use Rattle.std.specs.Prelude.{position}
use Rattle.std.specs.Char.{is_ascii_digit}
use Rattle.std.specs.List.{position_or_len}
use Rattle.std.specs.Str.{all_ascii_digits}
use Rattle.std.specs.Str.Parse.{digits_value}
use Rattle.std.proofs.Math.Seq.{take-append_seam, drop-append_seam, drop-append-add, drop-cons}
use Rattle.std.proofs.lemmas.Bool.{eqb-true, ltb-false, ltb-true, leb-true, le-leb, leb-false, and_parts}
use Rattle.std.proofs.lemmas.List.{take-append-le, take-append-drop, take_at}
use Rattle.std.proofs.lemmas.List.Quantifiers.{position-Some}
use Rattle.text_scan.specs.Numbers.{is_number, number_of}
use Rattle.two_part.specs.declared.Parts.{Parts}
use Rattle.two_part.specs.TwoPart.{IsTwoPart, AreParts, document_in, parts_behind, parts_of}
use Rattle.two_part.proofs.PartsFacts.{behind_digits, parts_found, parts_complete}
use Rattle.live_run.specs.Follow.{Follow}
use Rattle.live_run.specs.Answers.{IsBefore}
use Rattle.live_run.specs.Front.{HasDocument, HasNoDocument, SaysAbove, SaysNotTooLong}

abbrev is_line_feed : ℕ → Bool
is_line_feed byte = byte == 10

-- ---- the first line feed

is_first : (bytes : List ℕ) (at : ℕ) → position is_line_feed bytes ≡ Some at → (position_or_len is_line_feed bytes ≡ at) × (at < length bytes)
is_first bytes at e = go (nat_lt (position_or_len is_line_feed bytes) (length bytes)) refl
  where
    go : (b : Bool) → nat_lt (position_or_len is_line_feed bytes) (length bytes) ≡ b → (position_or_len is_line_feed bytes ≡ at) × (at < length bytes)
    go true h =
        let f : Some (position_or_len is_line_feed bytes) ≡ Some at = sym (rw h refl) ∙ e in
        let same : position_or_len is_line_feed bytes ≡ at = cc in
        (same, omega (arith, ltb-true (position_or_len is_line_feed bytes) (length bytes) h))
    go false h = absurd (let f : None ≡ Some at = sym (rw h refl) ∙ e in cc)

is_none : (bytes : List ℕ) → position is_line_feed bytes ≡ None → length bytes ≤ position_or_len is_line_feed bytes
is_none bytes e = go (nat_lt (position_or_len is_line_feed bytes) (length bytes)) refl
  where
    go : (b : Bool) → nat_lt (position_or_len is_line_feed bytes) (length bytes) ≡ b → length bytes ≤ position_or_len is_line_feed bytes
    go true h = absurd (let f : Some (position_or_len is_line_feed bytes) ≡ None = sym (rw h refl) ∙ e in cc)
    go false h = omega (arith, ltb-false (position_or_len is_line_feed bytes) (length bytes) h)

stays_first : (bytes more : List ℕ) → position_or_len is_line_feed bytes < length bytes → position_or_len is_line_feed (bytes ++ more) ≡ position_or_len is_line_feed bytes
stays_first [] more l = absurd (omega (arith, l))
stays_first (byte ∷ bytes) more l = go (is_line_feed byte) refl (stays_first bytes more)
  where
    go : (b : Bool) → is_line_feed byte ≡ b → (position_or_len is_line_feed bytes < length bytes → position_or_len is_line_feed (bytes ++ more) ≡ position_or_len is_line_feed bytes)
        → position_or_len is_line_feed (byte ∷ (bytes ++ more)) ≡ position_or_len is_line_feed (byte ∷ bytes)
    go true h rest = rw h refl
    go false h rest =
        let k : position_or_len is_line_feed (byte ∷ bytes) ≡ position_or_len is_line_feed bytes + 1 = rw h (omega arith) in
        let j : position_or_len is_line_feed (byte ∷ (bytes ++ more)) ≡ position_or_len is_line_feed (bytes ++ more) + 1 = rw h (omega arith) in
        let same = rest (omega (arith, l, k)) in
        omega (arith, j, k, same)

comes_later : (bytes more : List ℕ) → length bytes ≤ position_or_len is_line_feed bytes → length bytes ≤ position_or_len is_line_feed (bytes ++ more)
comes_later [] more l = omega arith
comes_later (byte ∷ bytes) more l = go (is_line_feed byte) refl (comes_later bytes more)
  where
    go : (b : Bool) → is_line_feed byte ≡ b → (length bytes ≤ position_or_len is_line_feed bytes → length bytes ≤ position_or_len is_line_feed (bytes ++ more))
        → length (byte ∷ bytes) ≤ position_or_len is_line_feed (byte ∷ (bytes ++ more))
    go true h rest = absurd (let k : position_or_len is_line_feed (byte ∷ bytes) ≡ 0 = rw h refl in omega (arith, l, k))
    go false h rest =
        let k : position_or_len is_line_feed (byte ∷ bytes) ≡ position_or_len is_line_feed bytes + 1 = rw h (omega arith) in
        let j : position_or_len is_line_feed (byte ∷ (bytes ++ more)) ≡ position_or_len is_line_feed (bytes ++ more) + 1 = rw h (omega arith) in
        let deeper = rest (omega (arith, l, k)) in
        omega (arith, deeper, j)

digits_in_front : (xs ys : List ℕ) → all_ascii_digits (xs ++ ys) ≡ true → all_ascii_digits xs ≡ true
digits_in_front [] ys e = refl
digits_in_front (digit ∷ xs) ys e =
    let parts = and_parts (is_ascii_digit digit) (all_ascii_digits (xs ++ ys)) e in
    rw (parts.0, digits_in_front xs ys parts.1) refl

number-so : (digits : List ℕ) → all_ascii_digits digits ≡ true → 1 ≤ length digits → length digits ≤ 20 → is_number digits ≡ true
number-so digits alone some few = rw (alone, le-leb 1 (length digits) some, le-leb (length digits) 20 few) refl

-- ---- no document

no_parts : (bytes : List ℕ) → ((digits document rest : List ℕ) → IsTwoPart bytes digits document rest → ⊥) → parts_of bytes ≡ None
no_parts bytes none = go (parts_of bytes) refl
  where
    go : (r : Option Parts) → parts_of bytes ≡ r → parts_of bytes ≡ None
    go None h = h
    go (Some parts) h = let are = parts_found bytes (Some parts) (sym h) in absurd (none are.digits are.document are.rest are.two_part)

-- no line has ended
pub open-unended : (bytes : List ℕ) → position is_line_feed bytes ≡ None → parts_of bytes ≡ None
open-unended bytes e = no_parts bytes (λ digits document rest two.
    let there : position_or_len is_line_feed bytes ≡ length digits = ap (position_or_len is_line_feed) two.in_order ∙ behind_digits digits (document ++ rest) two.digits_alone in
    let whole : length bytes ≡ length digits + length (10 ∷ (document ++ rest)) = ap length two.in_order ∙ length-append digits (10 ∷ (document ++ rest)) in
    omega (arith, is_none bytes e, there, whole))

-- what stands before the first line feed is no number
pub missing-number : (bytes : List ℕ) (at : ℕ) → position is_line_feed bytes ≡ Some at → is_number (take at bytes) ≡ false → HasNoDocument bytes
missing-number bytes at e wrong = λ more. no_parts (bytes ++ more) (λ digits document rest two. impossible more digits document rest two)
  where
    impossible : (more digits document rest : List ℕ) → IsTwoPart (bytes ++ more) digits document rest → ⊥
    impossible more digits document rest two =
        let first = is_first bytes at e in
        let here : position_or_len is_line_feed (bytes ++ more) ≡ at = stays_first bytes more (omega (arith, first.0, first.1)) ∙ first.0 in
        let there : position_or_len is_line_feed (bytes ++ more) ≡ length digits =
        ap (position_or_len is_line_feed) two.in_order ∙ behind_digits digits (document ++ rest) two.digits_alone in
        let same : at ≡ length digits = sym here ∙ there in
        let front : take at bytes ≡ digits =
        sym (take-append-le at bytes more (omega (arith, first.1))) ∙ ap (take at) two.in_order ∙ take_at digits (10 ∷ (document ++ rest)) at (sym same) in
        let right : is_number (take at bytes) ≡ true = ap is_number front ∙ number-so digits two.digits_alone two.some_digit two.few_digits in
        let clash : true ≡ false = sym right ∙ wrong in cc

-- no line has ended, and what stands there is no number
pub missing-unended : (bytes : List ℕ) → position is_line_feed bytes ≡ None → 1 ≤ length bytes → is_number bytes ≡ false → HasNoDocument bytes
missing-unended bytes e some wrong = λ more. no_parts (bytes ++ more) (λ digits document rest two. impossible more digits document rest two)
  where
    impossible : (more digits document rest : List ℕ) → IsTwoPart (bytes ++ more) digits document rest → ⊥
    impossible more digits document rest two =
        let later = comes_later bytes more (is_none bytes e) in
        let there : position_or_len is_line_feed (bytes ++ more) ≡ length digits =
        ap (position_or_len is_line_feed) two.in_order ∙ behind_digits digits (document ++ rest) two.digits_alone in
        let shorter : length bytes ≤ length digits = omega (arith, later, there) in
        let front : bytes ≡ take (length bytes) digits =
        sym (take-append_seam bytes more) ∙ ap (take (length bytes)) two.in_order ∙ take-append-le (length bytes) digits (10 ∷ (document ++ rest)) shorter in
        let alone : all_ascii_digits (take (length bytes) digits ++ drop (length bytes) digits) ≡ true = ap all_ascii_digits (take-append-drop (length bytes) digits) ∙ two.digits_alone in
        let right : is_number bytes ≡ true =
        number-so bytes (ap all_ascii_digits front ∙ digits_in_front (take (length bytes) digits) (drop (length bytes) digits) alone) some (omega (arith, shorter, two.few_digits)) in
        let clash : true ≡ false = sym right ∙ wrong in cc

-- ---- a number that is too great

above : (limit : ℕ) (digits : List ℕ) → limit ≤ 1_073_741_824 → is_number digits ≡ true → number_of digits ≡ None → limit < digits_value 10 digits
unfolding number_of
above limit digits small number none = go (nat_lt (digits_value 10 digits) 18446744073709551616) refl
  where
    go : (b : Bool) → nat_lt (digits_value 10 digits) 18446744073709551616 ≡ b → limit < digits_value 10 digits
    go true h = absurd (let f : Some (digits_value 10 digits) ≡ None = sym (rw (number, h) refl) ∙ none in cc)
    go false h = omega (arith, small, ltb-false (digits_value 10 digits) 18446744073709551616 h)

exactly : (digits : List ℕ) (number : ℕ) → is_number digits ≡ true → number_of digits ≡ Some number → digits_value 10 digits ≡ number
unfolding number_of
exactly digits number is some = go (nat_lt (digits_value 10 digits) 18446744073709551616) refl
  where
    go : (b : Bool) → nat_lt (digits_value 10 digits) 18446744073709551616 ≡ b → digits_value 10 digits ≡ number
    go false h = absurd (let f : None ≡ Some number = sym (rw (is, h) refl) ∙ some in cc)
    go true h = let f : Some (digits_value 10 digits) ≡ Some number = sym (rw (is, h) refl) ∙ some in cc

too_long : (limit : ℕ) (bytes : List ℕ) (at : ℕ) → position is_line_feed bytes ≡ Some at → is_number (take at bytes) ≡ true → limit < digits_value 10 (take at bytes) → SaysAbove limit bytes
too_long limit bytes at e number great =
    let stands = position-Some is_line_feed bytes at 0 e in
    record {
      digits = take at bytes;
      rest = drop (suc at) bytes;
      in_order = sym (take-append-drop at bytes) ∙ ap (λ (rest : List ℕ). take at bytes ++ rest)
          (drop-cons bytes at 0 stands.0 ∙ ap (λ (byte : ℕ). byte ∷ drop (suc at) bytes) (eqb-true (get_or bytes at 0) 10 stands.1));
      number = number;
      above = great;
    }

pub too_long-none : (limit : ℕ) (bytes : List ℕ) (at : ℕ) → limit ≤ 1_073_741_824 → position is_line_feed bytes ≡ Some at → is_number (take at bytes) ≡ true → number_of (take at bytes) ≡ None → SaysAbove limit bytes
too_long-none limit bytes at small e number none = too_long limit bytes at e number (above limit (take at bytes) small number none)

pub too_long-some : (limit : ℕ) (bytes : List ℕ) (at great : ℕ) → position is_line_feed bytes ≡ Some at → is_number (take at bytes) ≡ true → number_of (take at bytes) ≡ Some great → limit < great → SaysAbove limit bytes
too_long-some limit bytes at great e number some more =
    too_long limit bytes at e number (omega (arith, exactly (take at bytes) great number some, more))

-- ---- a number that is not

digits-stand : (limit : ℕ) (bytes : List ℕ) (says : SaysAbove limit bytes) → position_or_len is_line_feed bytes ≡ length says.digits
digits-stand limit bytes says =
    let alone = and_parts (all_ascii_digits says.digits) (nat_le 1 (length says.digits) && nat_le (length says.digits) 20) says.number in
    ap (position_or_len is_line_feed) says.in_order ∙ behind_digits says.digits says.rest alone.0

digits-are : (limit : ℕ) (bytes : List ℕ) (at : ℕ) → position is_line_feed bytes ≡ Some at → (says : SaysAbove limit bytes) → take at bytes ≡ says.digits
digits-are limit bytes at e says =
    let same : at ≡ length says.digits = sym (is_first bytes at e).0 ∙ digits-stand limit bytes says in
    ap (take at) says.in_order ∙ take_at says.digits (10 ∷ says.rest) at (sym same)

pub short-unended : (limit : ℕ) (bytes : List ℕ) → position is_line_feed bytes ≡ None → SaysAbove limit bytes → ⊥
short-unended limit bytes e says =
    let whole : length bytes ≡ length says.digits + length (10 ∷ says.rest) = ap length says.in_order ∙ length-append says.digits (10 ∷ says.rest) in
    omega (arith, is_none bytes e, digits-stand limit bytes says, whole)

pub short-missing : (limit : ℕ) (bytes : List ℕ) (at : ℕ) → position is_line_feed bytes ≡ Some at → is_number (take at bytes) ≡ false → SaysAbove limit bytes → ⊥
short-missing limit bytes at e wrong says =
    let right : is_number (take at bytes) ≡ true = ap is_number (digits-are limit bytes at e says) ∙ says.number in
    let clash : true ≡ false = sym right ∙ wrong in cc

pub short-number : (limit : ℕ) (bytes : List ℕ) (at number : ℕ) → position is_line_feed bytes ≡ Some at → is_number (take at bytes) ≡ true → number_of (take at bytes) ≡ Some number → number ≤ limit → SaysAbove limit bytes → ⊥
short-number limit bytes at number e is some few says =
    omega (arith, exactly (take at bytes) number is some, ap (digits_value 10) (digits-are limit bytes at e says), says.above, few)

-- ---- a whole document

before-two : (follow : Follow) (digits document : List ℕ) → ((behind : List ℕ) → IsTwoPart (digits ++ 10 ∷ (document ++ behind)) digits document behind)
    → follow.accepts document ≡ true → IsBefore follow (digits ++ 10 ∷ document) document
before-two follow digits document two accepted =
    let front : List ℕ = digits ++ 10 ∷ document in
    let joined : (behind : List ℕ) → front ++ behind ≡ digits ++ 10 ∷ (document ++ behind) = λ behind. append_assoc digits (10 ∷ document) behind in
    let front_length : length front ≡ length digits + 1 + length document = omega (arith, length-append digits (10 ∷ document)) in record {
      parts = parts_behind digits (length document);
      found = λ behind. parts_complete (front ++ behind) digits document behind (subst (λ (b : List ℕ). IsTwoPart b digits document behind) (sym (joined behind)) (two behind));
      document_so = λ behind. ap (drop (length digits + 1)) (take_at front behind (length digits + 1 + length document) front_length) ∙ drop-append-add digits (10 ∷ document) 1;
      behind_so = λ behind. ap (λ n. drop n (front ++ behind)) (sym front_length) ∙ drop-append_seam front behind;
      accepted = accepted;
    }

-- the bytes up to the end of their document, and the document
parts-end : (bytes : List ℕ) (parts : Parts) (are : AreParts bytes parts) → take parts.end bytes ≡ are.digits ++ 10 ∷ are.document
parts-end bytes parts are =
    let front : List ℕ = are.digits ++ 10 ∷ are.document in
    let whole : bytes ≡ front ++ are.rest = are.two_part.in_order ∙ sym (append_assoc are.digits (10 ∷ are.document) are.rest) in
    let front_length : length front ≡ length are.digits + 1 + length are.document = omega (arith, length-append are.digits (10 ∷ are.document)) in
    ap (λ (p : Parts). take p.end bytes) are.are ∙ ap (take (length are.digits + 1 + length are.document)) whole ∙ take_at front are.rest (length are.digits + 1 + length are.document) front_length

document-lies : (bytes : List ℕ) (parts : Parts) (are : AreParts bytes parts) → document_in bytes parts ≡ are.document
document-lies bytes parts are =
    ap (λ (b : List ℕ). drop parts.start b) (parts-end bytes parts are) ∙ ap (λ (p : Parts). drop p.start (are.digits ++ 10 ∷ are.document)) are.are
    ∙ drop-append-add are.digits (10 ∷ are.document) 1

-- the bytes up to the end of their document are before what follows
pub before-parts : (follow : Follow) (bytes : List ℕ) (parts : Parts) → parts_of bytes ≡ Some parts → follow.accepts (document_in bytes parts) ≡ true
    → IsBefore follow (take parts.end bytes) (document_in bytes parts)
before-parts follow bytes parts e accepted =
    let are = parts_found bytes (Some parts) (sym e) in
    let ends = parts-end bytes parts are in
    let lies = document-lies bytes parts are in
    let two : (behind : List ℕ) → IsTwoPart (are.digits ++ 10 ∷ (are.document ++ behind)) are.digits are.document behind =
    λ behind. record {
      in_order = refl;
      digits_alone = are.two_part.digits_alone;
      some_digit = are.two_part.some_digit;
      few_digits = are.two_part.few_digits;
      says_length = are.two_part.says_length;
    } in
    subst (λ (d : List ℕ). IsBefore follow (take parts.end bytes) d) (sym lies)
    (subst (λ (f : List ℕ). IsBefore follow f are.document) (sym ends)
    (before-two follow are.digits are.document two (ap follow.accepts (sym lies) ∙ accepted)))

-- where a document lies
pub parts-within : (bytes : List ℕ) (parts : Parts) → parts_of bytes ≡ Some parts → (parts.start ≤ parts.end) × (parts.end ≤ length bytes)
parts-within bytes parts e =
    let are = parts_found bytes (Some parts) (sym e) in
    let whole : length bytes ≡ length are.digits + length (10 ∷ (are.document ++ are.rest)) = ap length are.two_part.in_order ∙ length-append are.digits (10 ∷ (are.document ++ are.rest)) in (
      omega (arith, ap (λ (p : Parts). p.start) are.are, ap (λ (p : Parts). p.end) are.are),
      omega (arith, whole, length-append are.document are.rest, ap (λ (p : Parts). p.end) are.are),
    )

-- a document that is in front is no longer than any may be
pub has-document : (bytes : List ℕ) (parts : Parts) → parts_of bytes ≡ Some parts → SaysNotTooLong bytes → HasDocument bytes parts
has-document bytes parts e short =
    let are = parts_found bytes (Some parts) (sym e) in
    let lies = parts-within bytes parts e in record {
      found = e;
      start = lies.0;
      end = lies.1;
      few = subst (λ (document : List ℕ). length document ≤ 1_073_741_824) (sym (document-lies bytes parts are)) (few bytes parts are short);
    }
  where
    few : (bytes : List ℕ) (parts : Parts) (are : AreParts bytes parts) → SaysNotTooLong bytes → length are.document ≤ 1_073_741_824
    few bytes parts are short = go (nat_le (length are.document) 1_073_741_824) refl
      where
        go : (b : Bool) → nat_le (length are.document) 1_073_741_824 ≡ b → length are.document ≤ 1_073_741_824
        go true h = leb-true (length are.document) 1_073_741_824 h
        go false h = absurd (short (record {
          digits = are.digits;
          rest = are.document ++ are.rest;
          in_order = are.two_part.in_order;
          number = number-so are.digits are.two_part.digits_alone are.two_part.some_digit are.two_part.few_digits;
          above = omega (arith, leb-false (length are.document) 1_073_741_824 h, are.two_part.says_length);
        }))

pub some-of : (n : ℕ) → (n == 0) ≡ false → 1 ≤ n
some-of n e = go (nat_le 1 n) refl
  where
    go : (b : Bool) → nat_le 1 n ≡ b → 1 ≤ n
    go true h = leb-true 1 n h
    go false h = absurd (let z : n ≡ 0 = omega (arith, leb-false 1 n h) in let f : true ≡ false = sym (ap (λ k. k == 0) z) ∙ e in cc)
