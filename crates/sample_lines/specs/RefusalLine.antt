-- The row that is printed for samples at fault.
use Rattle.std.specs.Prelude.{ℕ, ◌++◌, List, codes, decimal}

abbrev pub sample_refusal : ℕ → List ℕ
sample_refusal line = codes "refused 17 sample at line " ++ decimal line ++ codes "\n"
