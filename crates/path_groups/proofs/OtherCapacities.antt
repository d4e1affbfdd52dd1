-- A plan is built on the links of a network whatever they can carry.
use Rattle.std.proofs.Common.{◌≡◌, ℕ, ◌<◌, List, [], ◌∷◌, length, get_or, ◌&&◌, refl, sym, ap, ◌∙◌, subst}
use Rattle.std.specs.Str.{bytes_eq}
use Rattle.bwe_specs.specs.Paths.{Path, PathGroups, path_group_at}
use Rattle.wan_topology.specs.Network.{Network, sites_of}
use Rattle.path_groups.specs.Plan.{IsBuiltOn, IsPathOf, is_linked}

-- the network with other capacities
abbrev pub with_capacities : Network → List ℕ → Network
with_capacities network capacities = record network { capacities = capacities }

linked-same : (network : Network) (capacities links : List ℕ) → is_linked (with_capacities network capacities) links ≡ is_linked network links
linked-same network capacities [] = refl
linked-same network capacities (first ∷ []) = refl
linked-same network capacities (first ∷ next ∷ later) =
    ap (λ rest. bytes_eq (sites_of network next).from (sites_of network first).to && rest) (linked-same network capacities (next ∷ later))

-- a path goes over the links of the network whatever they can carry
path-same : (network : Network) (capacities : List ℕ) (path : Path) → length capacities ≡ length network.capacities → IsPathOf network path → IsPathOf (with_capacities network capacities) path
path-same network capacities path same is = record {
  in_range = λ k d lt. subst (λ n. get_or path.links k d < n) (sym same) (is.in_range k d lt);
  linked = linked-same network capacities path.links ∙ is.linked;
}

-- a plan is built on the links of a network, whatever they can carry
pub built_on-same : (network : Network) (capacities : List ℕ) (groups : List PathGroups) → length capacities ≡ length network.capacities
    → IsBuiltOn network groups → IsBuiltOn (with_capacities network capacities) groups
built_on-same network capacities groups same is = record {
  paths = λ group place k d lt. path-same network capacities (get_or (path_group_at groups group place) k d) same (is.paths group place k d lt);
}
