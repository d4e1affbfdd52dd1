-- What contracts see of links. A text is the list of its bytes, a link's number is its place in
-- each list.
use Rattle.std.specs.Prelude.{◌≡◌, ℕ, ◌≤◌, List, [], ◌∷◌, ◌++◌, length, map, All, slice_index_or}
use Rattle.bwe_specs.specs.declared.limits.TheConstants.{MAX_AMOUNT, MAX_LINKS}

-- a link as it is given: its name, the sites where it starts and ends, and what it can carry, in
-- kilobits per second
pub record Link : Type 0 where
  pub name : List ℕ
  pub from : List ℕ
  pub to : List ℕ
  pub capacity : ℕ

-- the sites where a link starts and ends
pub record Sites : Type 0 where
  pub from : List ℕ
  pub to : List ℕ

-- a network: the name of each link, its sites, and what it can carry
pub record Network : Type 0 where
  pub names : List (List ℕ)
  pub sites : List Sites
  pub capacities : List ℕ

-- the network of the links as they are given
abbrev pub network_of : List Link → Network
network_of links = record {
  names = map (λ link. link.name) links;
  sites = map (λ link. record { from = link.from; to = link.to }) links;
  capacities = map (λ link. link.capacity) links;
}

-- the network with one more link, the last
abbrev pub network_with : Network → Link → Network
network_with network link = record {
  names = network.names ++ link.name ∷ [];
  sites = network.sites ++ record { from = link.from; to = link.to } ∷ [];
  capacities = network.capacities ++ link.capacity ∷ [];
}

-- there are few links, each has a name, sites and a capacity, and no capacity is above the greatest
-- amount
pub record IsNetwork (network : Network) : Type 0 where
  pub few_links : length network.capacities ≤ MAX_LINKS
  pub each_named : length network.names ≡ length network.capacities
  pub each_sited : length network.sites ≡ length network.capacities
  pub capacities_in_range : All (λ capacity. capacity ≤ MAX_AMOUNT) network.capacities

-- the sites of a link; no site where there is no such link
abbrev pub sites_of : Network → ℕ → Sites
sites_of network link = slice_index_or network.sites link (record { from = []; to = [] })
