use Rattle.std.proofs.Common.{◌≡◌, ◌+◌, drop, map, length}
use Rattle.raw_document.specs.Raw.{path_view}
use Rattle.doc_passes.specs.Limits.{sum_of}
use Rattle.doc_passes.proofs.limit.add_path_group_hops.Given as goal

abbrev pub invariant-loop-path : goal.invariant-loop-path
invariant-loop-path l = l.total + sum_of (λ path. length path.links) (map path_view (drop l.path-index l.path_group)) ≡ l.before + sum_of (λ path. length path.links) (map path_view l.path_group)
