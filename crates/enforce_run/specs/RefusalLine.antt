-- The row that is printed for events of which a line is at fault.
use Rattle.std.specs.Prelude.{ℕ, ◌++◌, List, codes, decimal}

abbrev pub event_refusal : ℕ → List ℕ
event_refusal line = codes "refused 16 events at line " ++ decimal line ++ codes "\n"
