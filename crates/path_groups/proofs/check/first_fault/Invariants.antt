use Rattle.std.proofs.Common.{◌≡◌, drop}
use Rattle.bwe_specs.specs.Given.{groups_of}
use Rattle.path_groups.specs.Faults.{first_fault, group_fault}
use Rattle.path_groups.proofs.check.first_fault.Given as goal

-- no group before has a fault
abbrev pub invariant-loop-group : goal.invariant-loop-group
invariant-loop-group l = first_fault (group_fault l.topology) 0 (groups_of l.groups) ≡ first_fault (group_fault l.topology) l.group (drop l.group (groups_of l.groups))
