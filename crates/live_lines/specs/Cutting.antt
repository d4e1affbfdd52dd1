-- Lines out of bytes that come one after another.
use Rattle.std.specs.Prelude.{ℕ, ◌==◌, Bool, true, false, List, [], ◌∷◌, ◌++◌, length, nat_le, Option, Some, None, if◌then◌else◌}
use Rattle.text_scan.specs.Words.{Text}
use Rattle.bwe_specs.specs.declared.limits.TheConstants.{MAX_LINE}

-- the bytes of a line before its line feed; none where there are more than 255
abbrev pub Held : Type 0
Held = Option Text

abbrev pub within : Text → Held
within text = if nat_le (length text) MAX_LINE then Some text else None

-- what a cutter holds
abbrev pub held_in : Bool → Text → Held
held_in true text = None
held_in false text = Some text

-- with one byte more
abbrev pub with_byte : Held → ℕ → Held
with_byte None byte = None
with_byte (Some text) byte = within (text ++ byte ∷ [])

-- the lines that the bytes end, where so much was held before them; a line feed is 10
unfoldable pub lines_from : Held → List ℕ → List Held
lines_from held [] = []
lines_from held (byte ∷ bytes) =
    if byte == 10 then held ∷ lines_from (Some []) bytes else lines_from (with_byte held byte) bytes

-- what is held behind them
unfoldable pub held_after : Held → List ℕ → Held
held_after held [] = held
held_after held (byte ∷ bytes) =
    if byte == 10 then held_after (Some []) bytes else held_after (with_byte held byte) bytes

-- nothing, not even a line that is too long
abbrev pub is_nothing : Held → Bool
is_nothing None = false
is_nothing (Some text) = length text == 0

-- the bytes behind the last line feed, where there are any, are one line that is refused
abbrev pub last_line : Held → List Held
last_line held = if is_nothing held then [] else None ∷ []

-- the lines of a whole input
unfoldable pub all_lines : List ℕ → List Held
all_lines bytes = lines_from (Some []) bytes ++ last_line (held_after (Some []) bytes)
