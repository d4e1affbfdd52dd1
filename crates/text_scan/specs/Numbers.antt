-- The numbers that digits are. A text is the list of its bytes.
use Rattle.std.specs.Prelude.{ℕ, Bool, ◌&&◌, ◌==◌, List, length, slice_index, Option, Some, None, if◌then◌else◌, nat_le, nat_lt}
use Rattle.std.specs.Str.{all_ascii_digits}
use Rattle.std.specs.Str.Parse.{digits_value}
use Rattle.bwe_specs.specs.declared.limits.TheConstants.{MAX_AMOUNT}

-- one to 20 ASCII digits, the first of which may be zeros
abbrev pub is_number : List ℕ → Bool
is_number text = all_ascii_digits text && (nat_le 1 (length text) && nat_le (length text) 20)

-- the number that they are, where 64 bits hold it
unfoldable pub number_of : List ℕ → Option ℕ
number_of text =
    if is_number text && nat_lt (digits_value 10 text) 18446744073709551616
    then Some (digits_value 10 text) else None

-- the first of more than one digit is a zero (48)
abbrev pub is_padded : List ℕ → Bool
is_padded text = nat_lt 1 (length text) && (slice_index text 0 == 48)

-- the number of a text that is written as texts print a number: without leading zeros
unfoldable pub printed_number_of : List ℕ → Option ℕ
printed_number_of text = if is_padded text then None else number_of text

-- the number as an amount, where it is not above the greatest
abbrev pub amount_in_range : ℕ → Option ℕ
amount_in_range number = if nat_le number MAX_AMOUNT then Some number else None
