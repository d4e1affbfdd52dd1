-- The document in front of an input, as its bytes come.
use Rattle.std.specs.Prelude.{◌≡◌, ℕ, ◌<◌, ◌≤◌, true, List, ◌∷◌, ◌++◌, length, Some, None}
use Rattle.std.specs.Str.Parse.{digits_value}
use Rattle.text_scan.specs.Numbers.{is_number}
use Rattle.one_run.specs.Endings.{max_input, max_long_input}
use Rattle.two_part.specs.declared.Parts.{Parts}
use Rattle.two_part.specs.TwoPart.{document_in, parts_of}
use Rattle.live_run.specs.declared.front.Front.{Front}
use Rattle.live_run.specs.declared.front.Front.TheVariants.{Open, Found, Missing, TooLong}

-- no document is in front, whatever follows
abbrev pub HasNoDocument : List ℕ → Type 0
HasNoDocument bytes = (more : List ℕ) → parts_of (bytes ++ more) ≡ None

-- a number is in front, and it is above this one
pub record SaysAbove (limit : ℕ) (bytes : List ℕ) : Type 0 where
  pub digits : List ℕ
  pub rest : List ℕ
  pub in_order : bytes ≡ digits ++ 10 ∷ rest
  pub number : is_number digits ≡ true
  pub above : limit < digits_value 10 digits

-- it is above 67,108,864, the most bytes of a document that is not of version 4
abbrev pub SaysLong : List ℕ → Type 0
SaysLong bytes = SaysAbove max_input bytes

-- it is above 1,073,741,824, the most bytes of any document
abbrev pub SaysTooLong : List ℕ → Type 0
SaysTooLong bytes = SaysAbove max_long_input bytes

abbrev pub SaysNotLong : List ℕ → Type 0
SaysNotLong bytes = SaysLong bytes → ⊥

abbrev pub SaysNotTooLong : List ℕ → Type 0
SaysNotTooLong bytes = SaysTooLong bytes → ⊥

-- a document is in front, at these parts, and it has no more bytes than any may have
pub record HasDocument (bytes : List ℕ) (parts : Parts) : Type 0 where
  pub found : parts_of bytes ≡ Some parts
  pub start : parts.start ≤ parts.end
  pub end : parts.end ≤ length bytes
  pub few : length (document_in bytes parts) ≤ max_long_input

-- what is known of the front
abbrev pub IsFront : List ℕ → Front → Type 0
IsFront bytes Open = (parts_of bytes ≡ None) × SaysNotTooLong bytes
IsFront bytes (Found parts) = HasDocument bytes parts
IsFront bytes Missing = HasNoDocument bytes × SaysNotLong bytes
IsFront bytes TooLong = SaysTooLong bytes
