-- The links that the paths of a network use.
use Rattle.std.proofs.Common.{◌≡◌, ℕ, suc, ◌<◌, true, ◌==◌, List, [], ◌∷◌, length, arith, eqb-true, subst, inl, inr}
use Rattle.std.specs.Prelude.{All}
use Rattle.std.specs.List.{list_any}
use Rattle.bwe_specs.specs.Paths.{PathGroup, goes_over, uses}
use Rattle.bwe_specs.proofs.Loads.{or-true}
use Rattle.wan_topology.specs.Network.{Network}
use Rattle.path_groups.specs.Plan.{IsPathOf}

-- a link that a path goes over is one of its links
goes_over-in : (links : List ℕ) (bound link : ℕ) → All (λ other. other < bound) links
    → list_any (λ other. other == link) links ≡ true → link < bound
goes_over-in [] bound link all e = absurd (cc)
goes_over-in (first ∷ later) bound link all e = elim (or-true (first == link) (list_any (λ other. other == link) later) e) [
  | inl is ↦ subst (λ l. l < bound) (eqb-true first link is) (all 0 first (omega arith))
  | inr rest ↦ goes_over-in later bound link (λ k d lt. all (suc k) d (omega arith)) rest
]

-- a link that a path group uses is one of the network's
pub uses-in : (network : Network) (path_group : PathGroup) (link : ℕ) → All (IsPathOf network) path_group
    → uses path_group link ≡ true → link < length network.capacities
unfolding uses
uses-in network [] link all e = absurd (cc)
uses-in network (path ∷ later) link all e =
    let here : IsPathOf network path = all 0 path (omega arith) in
    elim (or-true (goes_over link path) (list_any (goes_over link) later) e) [
      | inl over ↦ goes_over-in path.links (length network.capacities) link here.in_range over
      | inr rest ↦ uses-in network later link (λ k d lt. all (suc k) d (omega arith)) rest
    ]
