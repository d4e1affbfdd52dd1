-- Links added one by one.
use Rattle.std.proofs.Common.{◌≡◌, ℕ, suc, ◌+◌, ◌<◌, ◌≤◌, List, [], ◌∷◌, ◌++◌, length, map, refl, sym, ap, ap₂, ◌∙◌, arith, append_assoc, length-append, add-one, String, Global}
use Rattle.std.specs.Prelude.{None}
use Rattle.std.specs.String.{string_bytes}
use Rattle.std.proofs.lemmas.List.{map_push}
use Rattle.std.proofs.lemmas.List.Elements.{All-push}
use Rattle.wan_topology.specs.declared.topology.LinkSpec.{LinkSpec}
use Rattle.wan_topology.specs.declared.topology.LinkSites.{LinkSites}
use Rattle.wan_topology.specs.Network.{Link, Network, network_of, network_with, IsNetwork}
use Rattle.wan_topology.specs.Faults.{first_link_fault}
use Rattle.wan_topology.specs.Held.{link_of, links_of, sites_held, network_held}
use Rattle.wan_topology.proofs.Faults.{first_link_fault-none, none-first, none-in_range}

-- what is held, with one more link
pub network_held-with : (strings : List (String Global)) (sites : List LinkSites) (capacities : List ℕ) (network : Network) → network_held strings sites capacities ≡ network
    → (spec : LinkSpec) → network_held (strings ++ spec.name ∷ []) (sites ++ record { from = spec.from; to = spec.to } ∷ []) (capacities ++ spec.capacity ∷ []) ≡ network_with network (link_of spec)
network_held-with strings sites capacities network is spec =
    ap₂ (λ names sites'. record { names = names; sites = sites'; capacities = capacities ++ spec.capacity ∷ [] })
    (map_push string_bytes strings spec.name) (map_push sites_held sites (record { from = spec.from; to = spec.to }))
    ∙ ap (λ n. network_with n (link_of spec)) is

pub IsNetwork-with : (network : Network) (link : Link) → IsNetwork network → length network.capacities < 65_536 → link.capacity ≤ 1_000_000_000_000 → IsNetwork (network_with network link)
IsNetwork-with network link is room within = record {
  few_links = omega (arith, length-append network.capacities (link.capacity ∷ []));
  each_named = omega (arith, is.each_named, length-append network.names (link.name ∷ []), length-append network.capacities (link.capacity ∷ []));
  each_sited = omega (arith, is.each_sited, length-append network.sites (record { from = link.from; to = link.to } ∷ []), length-append network.capacities (link.capacity ∷ []));
  capacities_in_range = All-push (λ capacity. capacity ≤ 1_000_000_000_000) network.capacities link.capacity is.capacities_in_range within;
}

-- the network with further links at its end
abbrev pub network_then : Network → List Link → Network
network_then network links = record {
  names = network.names ++ map (λ link. link.name) links;
  sites = network.sites ++ map (λ link. record { from = link.from; to = link.to }) links;
  capacities = network.capacities ++ map (λ link. link.capacity) links;
}

pub network_then-with : (network : Network) (link : Link) (later : List Link) → network_then (network_with network link) later ≡ network_then network (link ∷ later)
network_then-with network link later =
    ap₂ (λ names sites. record { names = names; sites = sites; capacities = (network.capacities ++ link.capacity ∷ []) ++ map (λ other. other.capacity) later })
    (append_assoc network.names (link.name ∷ []) (map (λ other. other.name) later))
    (append_assoc network.sites (record { from = link.from; to = link.to } ∷ []) (map (λ other. record { from = other.from; to = other.to }) later))
    ∙ ap (λ capacities. record {
      names = network.names ++ link.name ∷ map (λ other. other.name) later;
      sites = network.sites ++ record { from = link.from; to = link.to } ∷ map (λ other. record { from = other.from; to = other.to }) later;
      capacities = capacities;
    })
    (append_assoc network.capacities (link.capacity ∷ []) (map (λ other. other.capacity) later))

-- so many links of all are in the network, and the others, which have no fault either, are still to
-- come
pub record IsUnderWay (network : Network) (later all : List Link) : Type 0 where
  pub together : network_then network later ≡ network_of all
  pub sound : first_link_fault network.names (length network.capacities) later ≡ None
  pub few : length network.capacities + length later ≤ 65_536

pub IsUnderWay-start : (all : List Link) → length all ≤ 65_536 → first_link_fault [] 0 all ≡ None → IsUnderWay (network_of []) all all
IsUnderWay-start all few sound = record { together = refl; sound = sound; few = omega (arith, few) }

pub IsUnderWay-with : (network : Network) (link : Link) (later all : List Link) → IsUnderWay network (link ∷ later) all → IsUnderWay (network_with network link) later all
IsUnderWay-with network link later all under = record {
  together = network_then-with network link later ∙ under.together;
  sound =
      ap (λ n. first_link_fault (network.names ++ link.name ∷ []) n later) (length-append network.capacities (link.capacity ∷ []) ∙ add-one (length network.capacities))
      ∙ sym (first_link_fault-none network.names (length network.capacities) link later (none-first network.names (length network.capacities) link later under.sound)) ∙ under.sound;
  few = omega (arith, under.few, length-append network.capacities (link.capacity ∷ []));
}

-- there is room for the next link, and its capacity is in range
pub IsUnderWay-room : (network : Network) (link : Link) (later all : List Link) → IsUnderWay network (link ∷ later) all → length network.capacities < 65_536
IsUnderWay-room network link later all under = omega (arith, under.few)

pub IsUnderWay-in_range : (network : Network) (link : Link) (later all : List Link) → IsUnderWay network (link ∷ later) all → link.capacity ≤ 1_000_000_000_000
IsUnderWay-in_range network link later all under =
    none-in_range network.names (length network.capacities) link (none-first network.names (length network.capacities) link later under.sound)

pub length_links : (specs : List LinkSpec) → length (links_of specs) ≡ length specs
length_links [] = refl
length_links (spec ∷ specs) = ap suc (length_links specs)
