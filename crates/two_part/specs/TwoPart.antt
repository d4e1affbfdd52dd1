-- Where the document of a two-part input lies.
use Rattle.std.specs.Prelude.{◌≡◌, ℕ, ◌+◌, ◌≤◌, true, ◌&&◌, ◌==◌, List, ◌∷◌, ◌++◌, length, take, drop, codes, position, Option, Some, None}
use Rattle.std.specs.Prelude.{if◌then◌else◌, nat_le, option_and_then}
use Rattle.std.specs.Str.{all_ascii_digits}
use Rattle.std.specs.Str.Parse.{digits_value}
use Rattle.text_scan.specs.Numbers.{is_number}
use Rattle.two_part.specs.declared.Parts.{Parts}

-- The bytes are one to 20 ASCII digits, a line feed (10), as many bytes as that number, which are
-- the document, and the rest.
pub record IsTwoPart (bytes digits document rest : List ℕ) : Type 0 where
  pub in_order : bytes ≡ digits ++ 10 ∷ (document ++ rest)
  pub digits_alone : all_ascii_digits digits ≡ true
  pub some_digit : 1 ≤ length digits
  pub few_digits : length digits ≤ 20
  pub says_length : digits_value 10 digits ≡ length document

-- the document lies behind these digits and their line feed
abbrev pub parts_behind : List ℕ → ℕ → Parts
parts_behind digits document_length =
    record { start = length digits + 1; end = length digits + 1 + document_length }

-- the parts lie where some digits, a document and a rest of the bytes say
pub record AreParts (bytes : List ℕ) (parts : Parts) : Type 0 where
  pub digits : List ℕ
  pub document : List ℕ
  pub rest : List ℕ
  pub two_part : IsTwoPart bytes digits document rest
  pub are : parts ≡ parts_behind digits (length document)

-- the document of an input lies from its start to before its end
abbrev pub document_in : List ℕ → Parts → List ℕ
document_in input parts = drop parts.start (take parts.end input)

-- the row for an input without parts
abbrev pub no_parts_line : List ℕ
no_parts_line = codes "refused 14 parts\n"

-- ---- the parts, as they are found

-- where so many bytes follow the digits, one to 20 of them, and the line feed
unfoldable pub parts_within : List ℕ → List ℕ → Option Parts
parts_within bytes digits =
    if is_number digits && nat_le (length digits + 1 + digits_value 10 digits) (length bytes)
    then Some (parts_behind digits (digits_value 10 digits)) else None

-- the digits are what stands before the first line feed
unfoldable pub parts_of : List ℕ → Option Parts
parts_of bytes =
    option_and_then (λ line_feed. parts_within bytes (take line_feed bytes))
    (position (λ byte. byte == 10) bytes)
