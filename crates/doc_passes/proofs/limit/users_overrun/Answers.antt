use Rattle.std.proofs.Common.{arith}
use Rattle.raw_document.specs.Raw.{user_view}
use Rattle.doc_passes.specs.Limits.{user_overrun}
use Rattle.doc_passes.proofs.Loops.{first_found, first_later, first_none}
use Rattle.doc_passes.proofs.limit.users_overrun.Goals as goal

pub returns-in-Some : goal.returns-in-Some
returns-in-Some c = first_found user_view user_overrun c.args.users.now c.loop-user.user-index c.user-item.result c.in-Some.overrun (omega arith) c.user-item.is c.in-Some.ensures c.loop-user.invariant

pub loop-user-preserved : goal.loop-user-preserved
loop-user-preserved c = first_later user_view user_overrun c.args.users.now c.loop-user.user-index c.user-item.result (omega arith) c.user-item.is c.in_default.ensures c.loop-user.invariant

pub returns : goal.returns
returns c = first_none user_view user_overrun c.args.users.now c.loop-user.user-index (omega arith) c.loop-user.invariant
