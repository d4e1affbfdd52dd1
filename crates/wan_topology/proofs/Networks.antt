-- Networks of equal parts.
use Rattle.std.proofs.Common.{◌≡◌, ap, ◌∙◌}
use Rattle.wan_topology.specs.Network.{Network}

-- a network is its parts
pub same-network : (network other : Network) → network.names ≡ other.names → network.sites ≡ other.sites → network.capacities ≡ other.capacities → network ≡ other
same-network network other names sites capacities =
    ap (λ xs. record { names = xs; sites = network.sites; capacities = network.capacities }) names
    ∙ ap (λ xs. record { names = other.names; sites = xs; capacities = network.capacities }) sites
    ∙ ap (λ xs. record { names = other.names; sites = other.sites; capacities = xs }) capacities
