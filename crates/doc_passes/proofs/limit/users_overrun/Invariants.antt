use Rattle.std.proofs.Common.{◌≡◌, drop, map}
use Rattle.raw_document.specs.Raw.{user_view}
use Rattle.doc_passes.specs.Limits.{first_some, user_overrun}
use Rattle.doc_passes.proofs.limit.users_overrun.Given as goal

abbrev pub invariant-loop-user : goal.invariant-loop-user
invariant-loop-user l = first_some user_overrun (map user_view (drop l.user-index l.users)) ≡ first_some user_overrun (map user_view l.users)
