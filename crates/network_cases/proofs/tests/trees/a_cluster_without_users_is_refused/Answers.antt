use Rattle.std.proofs.Common.{arith}
use Rattle.policy_tree.proofs.Counting.{length-walk, length-task_numbers}
use Rattle.network_cases.proofs.TestTrees.{none-nodes, none-tasks}
use Rattle.network_cases.proofs.tests.trees.a_cluster_without_users_is_refused.Goals as goal

pub build-refused-requires-clause-nodes : goal.build-refused-requires-clause-nodes
build-refused-requires-clause-nodes g c =
    let clusters = c.in_ok-vec.field-0.items in
    omega (arith, length-walk clusters, none-nodes _ clusters c.in_ok-vec.ensures.items c.new.ensures.items)

pub build-refused-requires-clause-tasks : goal.build-refused-requires-clause-tasks
build-refused-requires-clause-tasks g c =
    let clusters = c.in_ok-vec.field-0.items in
    omega (arith, length-task_numbers clusters, none-tasks _ clusters c.in_ok-vec.ensures.items c.new.ensures.items)
