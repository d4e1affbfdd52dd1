use Rattle.std.proofs.Common.{ap, arith}
use Rattle.std.proofs.lemmas.List.{take_all}
use Rattle.std.proofs.lemmas.List.Sums.{sum_by_more, sum_by_more_le}
use Rattle.policy_tree.proofs.childless.tasks_of.Goals as goal

pub tasks-tasks-requires : goal.tasks-tasks-requires
tasks-tasks-requires g c =
    let part = sum_by_more_le g.N.Counted.weights c.args.nodes.now c.loop-node.node-index c.node-item.result c.loop-node-test.true in
    omega (arith, part, ap g.N.Counted.weights c.node-item.is, c.requires)

pub overflow_add-tasks : goal.overflow_add-tasks
overflow_add-tasks g c =
    let part = sum_by_more_le g.N.Counted.weights c.args.nodes.now c.loop-node.node-index c.node-item.result c.loop-node-test.true in
    omega (arith, part, ap g.N.Counted.weights c.node-item.is, c.loop-node.invariant, c.tasks-tasks.ensures, c.requires)

pub loop-node-preserved : goal.loop-node-preserved
loop-node-preserved g c =
    let more = sum_by_more g.N.Counted.weights c.args.nodes.now c.loop-node.node-index c.node-item.result c.loop-node-test.true in
    omega (arith, more, ap g.N.Counted.weights c.node-item.is, c.loop-node.invariant, c.tasks-tasks.ensures)

pub returns : goal.returns
returns g c = rw (take_all c.loop-node.node-index c.args.nodes.now c.loop-node-test.false) at c.loop-node.invariant
