use Rattle.std.proofs.Common.{arith}
use Rattle.raw_document.specs.Raw.{group_view}
use Rattle.doc_passes.specs.Limits.{group_overrun}
use Rattle.doc_passes.proofs.Loops.{first_found, first_later, first_none}
use Rattle.doc_passes.proofs.limit.groups_overrun.Goals as goal

pub returns-in-Some : goal.returns-in-Some
returns-in-Some c = first_found group_view group_overrun c.args.groups.now c.loop-group.group-index c.group-item.result c.in-Some.overrun (omega arith) c.group-item.is c.in-Some.ensures c.loop-group.invariant

pub loop-group-preserved : goal.loop-group-preserved
loop-group-preserved c = first_later group_view group_overrun c.args.groups.now c.loop-group.group-index c.group-item.result (omega arith) c.group-item.is c.in_default.ensures c.loop-group.invariant

pub returns : goal.returns
returns c = first_none group_view group_overrun c.args.groups.now c.loop-group.group-index (omega arith) c.loop-group.invariant
