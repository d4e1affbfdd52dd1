use Rattle.std.proofs.Common.{◌≡◌, drop, map}
use Rattle.bwe_specs.specs.Given.{group_of, path_of}
use Rattle.path_groups.specs.Faults.{first_fault, path_fault}
use Rattle.path_groups.proofs.check.fault_of_path_group.Given as goal

-- no path before has a fault
abbrev pub invariant-loop-number : goal.invariant-loop-number
invariant-loop-number l =
    first_fault (path_fault l.topology l.group (group_of l.spec) l.place) 0 (map path_of l.paths)
    ≡ first_fault (path_fault l.topology l.group (group_of l.spec) l.place) l.number (drop l.number (map path_of l.paths))
