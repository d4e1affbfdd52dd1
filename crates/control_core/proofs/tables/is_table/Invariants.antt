use Rattle.std.proofs.Common.{◌≡◌}
use Rattle.bwe_specs.specs.Lists.{lists_of}
use Rattle.control_core.specs.World.{agree_below}
use Rattle.control_core.proofs.tables.is_table.Given as goal

abbrev pub invariant-loop-reporter : goal.invariant-loop-reporter
invariant-loop-reporter l = l.agree ≡ agree_below l.slices (lists_of l.rows) l.reporter
