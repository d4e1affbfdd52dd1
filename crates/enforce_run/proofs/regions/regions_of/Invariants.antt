use Rattle.std.proofs.Common.{◌≡◌}
use Rattle.bwe_specs.specs.Lists.{lists_of}
use Rattle.enforce_run.specs.Playing.{regions_of}
use Rattle.enforce_run.proofs.regions.regions_of.Given as goal

abbrev pub invariant-loop-reporter : goal.invariant-loop-reporter
invariant-loop-reporter l = lists_of l.regions.items ≡ regions_of l.reporter l.owners
