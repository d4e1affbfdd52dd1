use Rattle.std.proofs.Common.{◌≡◌, ◌+◌, drop, map}
use Rattle.raw_document.specs.Raw.{user_view}
use Rattle.doc_passes.specs.Limits.{sum_of}
use Rattle.doc_passes.specs.Counts.{user_nodes}
use Rattle.doc_parts.proofs.nodes.add_user_nodes.Given as goal

abbrev pub invariant-loop-user : goal.invariant-loop-user
invariant-loop-user l = l.total + sum_of user_nodes (map user_view (drop l.user-index l.users)) ≡ l.before + sum_of user_nodes (map user_view l.users)
