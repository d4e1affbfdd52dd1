use Rattle.std.proofs.Common.{arith}
use Rattle.policy_tree.proofs.Counting.{length-walk, length-task_numbers}
use Rattle.network_cases.proofs.TestTrees.{one-nodes, one-tasks}
use Rattle.network_cases.proofs.tests.made.built.Goals as goal

pub build-requires-clause-nodes : goal.build-requires-clause-nodes
build-requires-clause-nodes c =
    let clusters = c.in_ok-clusters.clusters.items in
    omega (arith, length-walk clusters, one-nodes _ _ clusters c.in_ok-clusters.ensures.items c.in_ok-vec.ensures.items, c.requires.few)

pub build-requires-clause-tasks : goal.build-requires-clause-tasks
build-requires-clause-tasks c =
    let clusters = c.in_ok-clusters.clusters.items in
    omega (arith, length-task_numbers clusters, one-tasks _ _ clusters c.in_ok-clusters.ensures.items c.in_ok-vec.ensures.items, c.requires.tasks)
