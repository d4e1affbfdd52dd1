use Rattle.std.proofs.Common.{ap, arith}
use Rattle.std.proofs.lemmas.List.{take_all}
use Rattle.std.proofs.lemmas.List.Sums.{sum_by_more, sum_by_more_le}
use Rattle.tree_nodes.proofs.walked.count_of.Goals as goal

pub count-count-requires : goal.count-count-requires
count-count-requires g c =
    let part = sum_by_more_le g.N.Walked.size c.args.nodes.now c.loop-node.node-index c.node-item.result c.loop-node-test.true in
    omega (arith, part, ap g.N.Walked.size c.node-item.is, c.requires)

pub overflow_add-count : goal.overflow_add-count
overflow_add-count g c =
    let part = sum_by_more_le g.N.Walked.size c.args.nodes.now c.loop-node.node-index c.node-item.result c.loop-node-test.true in
    omega (arith, part, ap g.N.Walked.size c.node-item.is, c.loop-node.invariant, c.count-count.ensures, c.requires)

pub loop-node-preserved : goal.loop-node-preserved
loop-node-preserved g c =
    let more = sum_by_more g.N.Walked.size c.args.nodes.now c.loop-node.node-index c.node-item.result c.loop-node-test.true in
    omega (arith, more, ap g.N.Walked.size c.node-item.is, c.loop-node.invariant, c.count-count.ensures)

pub returns : goal.returns
returns g c = rw (take_all c.loop-node.node-index c.args.nodes.now c.loop-node-test.false) at c.loop-node.invariant
