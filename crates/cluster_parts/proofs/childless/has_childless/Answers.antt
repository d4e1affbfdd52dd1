use Rattle.std.proofs.Common.{arith, sym, ◌∙◌}
use Rattle.raw_document.specs.Raw.{group_view}
use Rattle.cluster_parts.specs.Childless.{group_has_childless}
use Rattle.cluster_parts.proofs.ChildlessFacts.{any_found, any_later, any_none}
use Rattle.cluster_parts.proofs.childless.has_childless.Goals as goal

pub returns-then-group_has_childless : goal.returns-then-group_has_childless
returns-then-group_has_childless c = any_found group_view group_has_childless c.args.groups.now c.loop-group.group-index c.group-item.result (omega arith) c.group-item.is (sym c.group_has_childless.ensures ∙ c.if-group_has_childless.true) c.loop-group.invariant

pub loop-group-preserved : goal.loop-group-preserved
loop-group-preserved c = any_later group_view group_has_childless c.args.groups.now c.loop-group.group-index c.group-item.result (omega arith) c.group-item.is (sym c.group_has_childless.ensures ∙ c.if-group_has_childless.false) c.loop-group.invariant

pub returns : goal.returns
returns c = any_none group_view group_has_childless c.args.groups.now c.loop-group.group-index (omega arith) c.loop-group.invariant
