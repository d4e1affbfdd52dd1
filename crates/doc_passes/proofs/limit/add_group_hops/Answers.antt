use Rattle.std.proofs.Common.{arith, rules}
use Rattle.raw_document.specs.Raw.{path_group_view}
use Rattle.doc_passes.specs.Limits.{path_group_hops}
use Rattle.doc_passes.proofs.Loops.{sum_later, sum_whole}
use Rattle.doc_passes.proofs.limit.add_group_hops.Goals as goal

pub loop-path_group-preserved : goal.loop-path_group-preserved
loop-path_group-preserved c = sum_later path_group_view path_group_hops c.args.path_groups.now c.loop-path_group.path_group-index c.path_group-item.result c.loop-path_group.total c.in_ok-total.total c.args.before (omega arith) c.path_group-item.is (search rules) c.loop-path_group.invariant

pub returns : goal.returns
returns c = sum_whole path_group_view path_group_hops c.args.path_groups.now c.loop-path_group.path_group-index c.loop-path_group.total c.args.before (omega arith) c.loop-path_group.invariant
