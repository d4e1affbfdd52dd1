-- What is told of a number, as it was asked.
use Rattle.std.specs.Prelude.{◌≡◌, ℕ, ◌≤◌}
use Rattle.mpfa_fill.specs.declared.asked.Asked.{Asked}
use Rattle.mpfa_fill.specs.declared.asked.Asked.TheVariants.{Exactly, AtMost, AtLeast}

-- it is the number told, or at most that, or at least
abbrev pub IsTold : Asked → ℕ → ℕ → Type 0
IsTold Exactly number told = told ≡ number
IsTold AtMost number told = number ≤ told
IsTold AtLeast number told = told ≤ number
