use Rattle.std.proofs.Common.{◌≡◌, map}
use Rattle.bwe_specs.specs.Lists.{lists_of}
use Rattle.bwe_specs.specs.Reports.{numbers}
use Rattle.control_core.specs.World.{write_at}
use Rattle.control_core.proofs.tables.writes.Given as goal

abbrev pub invariant-loop-reporter : goal.invariant-loop-reporter
invariant-loop-reporter l = l.writes.items ≡ map (write_at l.prefix l.upto l.slices (lists_of l.rows)) (numbers l.reporter)
