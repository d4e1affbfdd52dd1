use Rattle.std.proofs.Common.{◌≡◌, ◌+◌, ◌++◌, length, sum_by, take}
use Rattle.bwe_specs.specs.Lists.{lists_of}
use Rattle.tree_nodes.specs.Children.{child_lists, all_nodes}
use Rattle.tree_nodes.proofs.walked.push_all_children.Given as goal

abbrev pub invariant-loop-node : goal.invariant-loop-node
invariant-loop-node g l = record {
  next : l.next ≡ l.fn.task + sum_by g.N.Walked.tasks (take l.node-index l.nodes);
  count : length l.children.items ≡ length l.fn.children.items + sum_by g.N.Walked.size (take l.node-index l.nodes);
  lists : lists_of l.children.items ≡ lists_of l.fn.children.items ++ child_lists (length l.fn.children.items) (all_nodes g.N.Walked.tasks g.N.Walked.nodes l.fn.task (take l.node-index l.nodes));
}
