use Rattle.std.proofs.Common.{◌≡◌, ◌+◌, drop, map}
use Rattle.raw_document.specs.Raw.{group_view}
use Rattle.doc_passes.specs.Limits.{sum_of, group_hops}
use Rattle.doc_passes.proofs.limit.count_hops.Given as goal

abbrev pub invariant-loop-group : goal.invariant-loop-group
invariant-loop-group l = l.total + sum_of group_hops (map group_view (drop l.group-index l.groups)) ≡ 0 + sum_of group_hops (map group_view l.groups)
