use Rattle.std.proofs.Common.{◌≡◌, drop, map}
use Rattle.raw_document.specs.Raw.{group_view}
use Rattle.doc_passes.specs.Limits.{first_some, group_overrun}
use Rattle.doc_passes.proofs.limit.groups_overrun.Given as goal

abbrev pub invariant-loop-group : goal.invariant-loop-group
invariant-loop-group l = first_some group_overrun (map group_view (drop l.group-index l.groups)) ≡ first_some group_overrun (map group_view l.groups)
