use Rattle.std.proofs.Common.{arith}
use Rattle.raw_document.specs.Raw.{group_view}
use Rattle.doc_passes.specs.Counts.{group_nodes}
use Rattle.doc_passes.proofs.Loops.{sum_later, sum_whole}
use Rattle.doc_parts.proofs.nodes.count_nodes.Goals as goal

pub loop-group-preserved : goal.loop-group-preserved
loop-group-preserved c = sum_later group_view group_nodes c.args.groups.now c.loop-group.group-index c.group-item.result c.loop-group.total c.in_ok-total.total 0 (omega arith) c.group-item.is (grind arith) c.loop-group.invariant

pub returns : goal.returns
returns c = omega (arith, sum_whole group_view group_nodes c.args.groups.now c.loop-group.group-index c.loop-group.total 0 (omega arith) c.loop-group.invariant)
