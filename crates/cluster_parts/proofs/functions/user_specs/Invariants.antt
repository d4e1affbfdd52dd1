use Rattle.raw_document.specs.Raw.{user_view}
use Rattle.cluster_parts.specs.Functions.{refused_in_user}
use Rattle.cluster_parts.specs.TreeParts.{user_part}
use Rattle.tree_spec.specs.Asked.{idle_user}
use Rattle.cluster_parts.proofs.Buildings.{IsBuilding}
use Rattle.cluster_parts.proofs.functions.user_specs.Given as goal

abbrev pub invariant-loop-place : goal.invariant-loop-place
invariant-loop-place l = IsBuilding user_view idle_user (refused_in_user l.top) (user_part l.top) l.users l.place l.specs.items
