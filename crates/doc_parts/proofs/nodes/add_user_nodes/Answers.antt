use Rattle.std.proofs.Common.{arith, rules}
use Rattle.std.proofs.lemmas.List.{length-map}
use Rattle.raw_document.specs.Raw.{user_view}
use Rattle.doc_passes.specs.Counts.{user_nodes}
use Rattle.doc_passes.proofs.Loops.{sum_later, sum_whole}
use Rattle.doc_parts.proofs.nodes.add_user_nodes.Goals as goal

pub loop-user-preserved : goal.loop-user-preserved
loop-user-preserved c = sum_later user_view user_nodes c.args.users.now c.loop-user.user-index c.user-item.result c.loop-user.total c.in_ok-total.total c.args.before (omega arith) c.user-item.is (rw length-map (search rules)) c.loop-user.invariant

pub returns : goal.returns
returns c = sum_whole user_view user_nodes c.args.users.now c.loop-user.user-index c.loop-user.total c.args.before (omega arith) c.loop-user.invariant
