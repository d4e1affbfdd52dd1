use Rattle.std.proofs.Common.{◌≡◌, ◌+◌, drop}
use Rattle.bwe_specs.specs.Lists.{lists_of}
use Rattle.run_audit.specs.History.{total_of}
use Rattle.run_audit.proofs.run.total_reports.Given as goal

abbrev pub invariant-loop-script : goal.invariant-loop-script
invariant-loop-script l = l.total + total_of (lists_of (drop l.script-index l.scripts)) ≡ total_of (lists_of l.scripts)
