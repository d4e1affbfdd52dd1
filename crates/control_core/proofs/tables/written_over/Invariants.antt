use Rattle.std.proofs.Common.{◌≡◌, map}
use Rattle.bwe_specs.specs.Reports.{numbers}
use Rattle.control_core.specs.World.{over, slice_at}
use Rattle.control_core.proofs.tables.written_over.Given as goal

abbrev pub invariant-loop-reporter : goal.invariant-loop-reporter
invariant-loop-reporter l = l.after.items ≡ map (λ reporter. over (slice_at l.writes reporter) (slice_at l.slices reporter)) (numbers l.reporter)
