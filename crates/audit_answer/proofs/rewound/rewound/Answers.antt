use Rattle.std.proofs.Common.{◌≡◌, ◌<◌, ◌&&◌, ◌∙◌, ℕ, List, [], ◌∷◌, length, get_or, refl, ap, subst, sym, arith, rules}
use Rattle.std.specs.Str.{bytes_eq}
use Rattle.std.proofs.lemmas.Grind.{common_steps}
use Rattle.bwe_specs.specs.Paths.{Path, PathGroups, path_group_at}
use Rattle.path_groups.specs.Plan.{IsBuiltOn, IsPathOf, is_linked}
use Rattle.wan_topology.specs.Network.{Network, sites_of}
use Rattle.audit_answer.proofs.rewound.rewound.Goals as goal

-- the network with other capacities
abbrev carrying : Network → List ℕ → Network
carrying network capacities = record network { capacities = capacities }

linked-same : (network : Network) (capacities links : List ℕ) → is_linked (carrying network capacities) links ≡ is_linked network links
linked-same network capacities [] = refl
linked-same network capacities (first ∷ []) = refl
linked-same network capacities (first ∷ next ∷ later) =
    ap (λ rest. bytes_eq (sites_of network next).from (sites_of network first).to && rest) (linked-same network capacities (next ∷ later))

path-same : (network : Network) (capacities : List ℕ) → length capacities ≡ length network.capacities → (path : Path) → IsPathOf network path → IsPathOf (carrying network capacities) path
path-same network capacities same path is = record {
  in_range = λ k d lt. subst (λ n. get_or path.links k d < n) (sym same) (is.in_range k d lt);
  linked = linked-same network capacities path.links ∙ is.linked;
}

-- a plan goes over the links of the network whatever they can carry
built_on-same : (network : Network) (capacities : List ℕ) → length capacities ≡ length network.capacities → (groups : List PathGroups) → IsBuiltOn network groups → IsBuiltOn (carrying network capacities) groups
built_on-same network capacities same groups is = record {
  paths = λ group place k d lt. path-same network capacities same (get_or (path_group_at groups group place) k d) (is.paths group place k d lt);
}

pub new-requires-clause-built_on : goal.new-requires-clause-built_on
new-requires-clause-built_on c =
    let network = c.into_parts-tree.result.1 in
    let given = c.args.given.now in
    let parts = c.into_parts-tree.ensures in
    let same : length given ≡ length network.capacities = first_of (search rules, grind (arith, common_steps), grind (arith, common_steps, ap length c.requires.given)) in
    let before : IsBuiltOn network c.into_parts-tree.result.2 =
    subst (λ (now : Network). IsBuiltOn now c.into_parts-tree.result.2) (sym parts.network) (subst (IsBuiltOn c.args.allocator.reported.network) (sym parts.plan) parts.built_on) in
    subst (λ (now : Network). IsBuiltOn now c.into_parts-tree.result.2) (sym c.give.ensures) (built_on-same network given same c.into_parts-tree.result.2 before)
