use Rattle.std.proofs.Common.{◌≡◌, ◌+◌, drop, map}
use Rattle.raw_document.specs.Raw.{path_group_view}
use Rattle.doc_passes.specs.Limits.{sum_of, path_group_hops}
use Rattle.doc_passes.proofs.limit.add_group_hops.Given as goal

abbrev pub invariant-loop-path_group : goal.invariant-loop-path_group
invariant-loop-path_group l = l.total + sum_of path_group_hops (map path_group_view (drop l.path_group-index l.path_groups)) ≡ l.before + sum_of path_group_hops (map path_group_view l.path_groups)
