use Rattle.std.proofs.Common.{◌≡◌, ◌-◌, get_or, drop}
use Rattle.bw_function.specs.Faults.{function_fault, later_fault}
use Rattle.bw_function.proofs.fault.fault_of.Given as goal

abbrev pub invariant-loop-at : goal.invariant-loop-at
invariant-loop-at l = function_fault l.points l.top ≡ later_fault (get_or l.points (l.at - 1) (0, 0)) (drop l.at l.points) l.top l.at
