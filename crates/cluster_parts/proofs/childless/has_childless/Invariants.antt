use Rattle.std.proofs.Common.{◌≡◌, drop, map}
use Rattle.std.specs.List.{list_any}
use Rattle.raw_document.specs.Raw.{group_view}
use Rattle.cluster_parts.specs.Childless.{group_has_childless}
use Rattle.cluster_parts.proofs.childless.has_childless.Given as goal

abbrev pub invariant-loop-group : goal.invariant-loop-group
invariant-loop-group l = list_any group_has_childless (map group_view (drop l.group-index l.groups)) ≡ list_any group_has_childless (map group_view l.groups)
