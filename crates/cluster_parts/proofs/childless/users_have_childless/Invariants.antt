use Rattle.std.proofs.Common.{◌≡◌, drop, map}
use Rattle.std.specs.List.{list_any}
use Rattle.raw_document.specs.Raw.{user_view}
use Rattle.cluster_parts.specs.Childless.{user_has_childless}
use Rattle.cluster_parts.proofs.childless.users_have_childless.Given as goal

abbrev pub invariant-loop-user : goal.invariant-loop-user
invariant-loop-user l = list_any user_has_childless (map user_view (drop l.user-index l.users)) ≡ list_any user_has_childless (map user_view l.users)
