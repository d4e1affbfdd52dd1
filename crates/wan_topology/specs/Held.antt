-- How a topology holds its links, and how links are given.
use Rattle.std.specs.Prelude.{ℕ, List, map, String}
use Rattle.std.specs.String.{string_bytes}
use Rattle.std.proofs.Common.{Global}
use Rattle.wan_topology.specs.declared.topology.LinkSpec.{LinkSpec}
use Rattle.wan_topology.specs.declared.topology.LinkSites.{LinkSites}
use Rattle.wan_topology.specs.Network.{Link, Sites, Network}

-- the link that is given
abbrev pub link_of : LinkSpec → Link
link_of spec =
    record {
      name = string_bytes spec.name;
      from = string_bytes spec.from;
      to = string_bytes spec.to;
      capacity = spec.capacity;
    }

-- the links that are given, in their order
abbrev pub links_of : List LinkSpec → List Link
links_of specs = map link_of specs

-- the bytes of texts
abbrev pub texts : List (String Global) → List (List ℕ)
texts strings = map string_bytes strings

-- the sites of a link, as they are held
abbrev pub sites_held : LinkSites → Sites
sites_held sites = record { from = string_bytes sites.from; to = string_bytes sites.to }

-- the network that is held
abbrev pub network_held : List (String Global) → List LinkSites → List ℕ → Network
network_held names sites capacities =
    record { names = texts names; sites = map sites_held sites; capacities = capacities }
