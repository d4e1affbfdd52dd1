-- The line for a line that is refused.
use Rattle.std.specs.Prelude.{ℕ, ◌++◌, List, codes, decimal}
use Rattle.live_lines.specs.declared.line.LineCause.{LineCause}
use Rattle.live_lines.specs.declared.line.LineCause.TheVariants.{NoLine, UnknownName, AmountOutOfRange, NotOwner}

-- causes count from 1, in the order in which they are looked at
abbrev pub cause_number : LineCause → ℕ
cause_number NoLine = 1
cause_number UnknownName = 2
cause_number AmountOutOfRange = 3
cause_number NotOwner = 4

unfoldable pub refused_text_of : ℕ → LineCause → List ℕ
refused_text_of line cause =
    codes "refused line " ++ decimal line ++ codes " cause " ++ decimal (cause_number cause)
    ++ codes "\n"
