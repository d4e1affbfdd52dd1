use Rattle.std.proofs.Common.{◌≡◌, ◌++◌}
use Rattle.raw_reader.specs.Runs.{stretches_in}
use Rattle.raw_reader.proofs.runs.runs_of.Given as goal

-- what was dealt and what is left are the stretches
abbrev pub invariant-loop-scratch : goal.invariant-loop-scratch
invariant-loop-scratch l = stretches_in l.runs.items ++ l.rest.items ≡ l.fn.stretches.items
