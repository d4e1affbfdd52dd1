use Rattle.std.proofs.Common.{arith, rules}
use Rattle.raw_document.specs.Raw.{group_view}
use Rattle.doc_passes.specs.Limits.{group_hops}
use Rattle.doc_passes.proofs.Loops.{sum_later, sum_whole}
use Rattle.doc_passes.proofs.limit.count_hops.Goals as goal

pub loop-group-preserved : goal.loop-group-preserved
loop-group-preserved c = sum_later group_view group_hops c.args.groups.now c.loop-group.group-index c.group-item.result c.loop-group.total c.in_ok-total.total 0 (omega arith) c.group-item.is (search rules) c.loop-group.invariant

pub returns : goal.returns
returns c = omega (arith, sum_whole group_view group_hops c.args.groups.now c.loop-group.group-index c.loop-group.total 0 (omega arith) c.loop-group.invariant)
