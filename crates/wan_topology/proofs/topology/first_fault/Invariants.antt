use Rattle.std.proofs.Common.{drop}
use Rattle.wan_topology.specs.Held.{links_of}
use Rattle.wan_topology.proofs.Names.{IsLookedAt, lent}
use Rattle.wan_topology.proofs.topology.first_fault.Given as goal

-- the links before have no fault, and their names are in the set
abbrev pub invariant-loop-number : goal.invariant-loop-number
invariant-loop-number l =
    IsLookedAt (lent l.names.keys) l.number (drop l.number (links_of l.links)) (links_of l.links)
