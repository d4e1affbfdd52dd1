use Rattle.std.proofs.Common.{arith, sym, ◌∙◌}
use Rattle.raw_document.specs.Raw.{user_view}
use Rattle.cluster_parts.specs.Childless.{user_has_childless}
use Rattle.cluster_parts.proofs.ChildlessFacts.{any_found, any_later, any_none}
use Rattle.cluster_parts.proofs.childless.users_have_childless.Goals as goal

pub returns-then-user_has_childless : goal.returns-then-user_has_childless
returns-then-user_has_childless c = any_found user_view user_has_childless c.args.users.now c.loop-user.user-index c.user-item.result (omega arith) c.user-item.is (sym c.user_has_childless.ensures ∙ c.if-user_has_childless.true) c.loop-user.invariant

pub loop-user-preserved : goal.loop-user-preserved
loop-user-preserved c = any_later user_view user_has_childless c.args.users.now c.loop-user.user-index c.user-item.result (omega arith) c.user-item.is (sym c.user_has_childless.ensures ∙ c.if-user_has_childless.false) c.loop-user.invariant

pub returns : goal.returns
returns c = any_none user_view user_has_childless c.args.users.now c.loop-user.user-index (omega arith) c.loop-user.invariant
