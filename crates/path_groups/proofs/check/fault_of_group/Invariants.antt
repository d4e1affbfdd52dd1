use Rattle.std.proofs.Common.{◌≡◌, drop}
use Rattle.bwe_specs.specs.Given.{group_of}
use Rattle.path_groups.specs.Faults.{first_fault, path_group_fault}
use Rattle.path_groups.proofs.check.fault_of_group.Given as goal

-- no place before has a fault
abbrev pub invariant-loop-place : goal.invariant-loop-place
invariant-loop-place l =
    first_fault (path_group_fault l.topology l.group (group_of l.spec)) 0 (group_of l.spec).path_groups
    ≡ first_fault (path_group_fault l.topology l.group (group_of l.spec)) l.place (drop l.place (group_of l.spec).path_groups)
