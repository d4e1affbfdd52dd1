use Rattle.std.proofs.Common.{◌-◌, ◌<◌, ◌≤◌, length}
use Rattle.policy_tree.specs.Nodes.{first_in}
use Rattle.kept_tree.proofs.owner.owner_of.Given as goal

-- the task is of one of the groups between
abbrev pub invariant-loop-high : goal.invariant-loop-high
invariant-loop-high l = record {
  order : l.low < l.high;
  upto : l.high ≤ length l.tree.clusters;
  from : first_in l.tree l.low ≤ l.task;
  before : l.high < length l.tree.clusters → l.task < first_in l.tree l.high;
}

abbrev pub decreases-loop-high : goal.decreases-loop-high
decreases-loop-high l = l.high - l.low
