use Rattle.std.proofs.Common.{arith}
use Rattle.doc_names.proofs.OwnerLoop.{not_owned_here, not_owned_later, all_owned}
use Rattle.doc_names.proofs.owners.find_not_owned.Goals as goal

pub returns-then-not-is_owner : goal.returns-then-not-is_owner
returns-then-not-is_owner c = not_owned_here c.args.task_owners.now c.args.link_owners.now c.args.script.now c.loop-place.place _ c.owner_of-owner.result c.is_owner.result (omega arith) c.owner_of-owner.ensures c.is_owner.ensures c.if-not-is_owner.true c.loop-place.invariant

pub loop-place-preserved : goal.loop-place-preserved
loop-place-preserved c = not_owned_later c.args.task_owners.now c.args.link_owners.now c.args.script.now c.loop-place.place _ c.owner_of-owner.result c.is_owner.result (omega arith) c.owner_of-owner.ensures c.is_owner.ensures c.if-not-is_owner.false c.loop-place.invariant

pub returns : goal.returns
returns c = all_owned c.args.task_owners.now c.args.link_owners.now c.args.script.now c.loop-place.place (omega arith) c.loop-place.invariant
