use Rattle.std.proofs.Common.{◌≡◌, ◌+◌, drop, map}
use Rattle.raw_document.specs.Raw.{group_view}
use Rattle.doc_passes.specs.Limits.{sum_of}
use Rattle.doc_passes.specs.Counts.{group_nodes}
use Rattle.doc_parts.proofs.nodes.count_nodes.Given as goal

abbrev pub invariant-loop-group : goal.invariant-loop-group
invariant-loop-group l = l.total + sum_of group_nodes (map group_view (drop l.group-index l.groups)) ≡ 0 + sum_of group_nodes (map group_view l.groups)
