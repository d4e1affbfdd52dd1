use Rattle.std.proofs.Common.{arith}
use Rattle.policy_tree.proofs.Counting.{length-walk, length-task_numbers}
use Rattle.network_cases.proofs.TestTrees.{two-nodes, two-tasks}
use Rattle.network_cases.proofs.tests.groups.a_group_has_no_more_than_it_asks_for.Goals as goal

pub build-requires-clause-nodes : goal.build-requires-clause-nodes
build-requires-clause-nodes g c =
    let clusters = c.in_ok-clusters.clusters.items in
    omega (arith, length-walk clusters, two-nodes _ _ clusters c.in_ok-clusters.ensures.items, c.in_ok-one_task.ensures.nodes, c.in_ok-one_task-2.ensures.nodes)

pub build-requires-clause-tasks : goal.build-requires-clause-tasks
build-requires-clause-tasks g c =
    let clusters = c.in_ok-clusters.clusters.items in
    omega (arith, length-task_numbers clusters, two-tasks _ _ clusters c.in_ok-clusters.ensures.items, c.in_ok-one_task.ensures.tasks, c.in_ok-one_task-2.ensures.tasks)
