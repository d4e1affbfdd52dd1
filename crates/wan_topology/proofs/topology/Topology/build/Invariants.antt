use Rattle.std.specs.Vec.Iter.{into_iter_items}
use Rattle.wan_topology.specs.Held.{links_of}
use Rattle.wan_topology.proofs.Builds.{IsUnderWay}
use Rattle.wan_topology.proofs.topology.Topology.build.Given as goal

-- the links that came are in the topology
abbrev pub invariant-loop-link : goal.invariant-loop-link
invariant-loop-link l = IsUnderWay l.topology (links_of (into_iter_items l.link-iterator)) (links_of l.fn.links.items)
