use Rattle.raw_document.specs.Raw.{group_view}
use Rattle.cluster_parts.specs.Functions.{refused_in_group}
use Rattle.cluster_parts.specs.TreeParts.{cluster_part}
use Rattle.tree_spec.specs.Asked.{idle_cluster}
use Rattle.cluster_parts.proofs.Buildings.{IsBuilding}
use Rattle.cluster_parts.proofs.functions.each_cluster_spec.Given as goal

abbrev pub invariant-loop-place : goal.invariant-loop-place
invariant-loop-place l = IsBuilding group_view idle_cluster (refused_in_group l.top) (cluster_part l.top) l.groups l.place l.specs.items
