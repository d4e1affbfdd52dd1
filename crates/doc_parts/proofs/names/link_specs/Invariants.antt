use Rattle.std.proofs.Common.{◌≡◌, ◌++◌, drop, map}
use Rattle.raw_document.specs.Raw.{link_view}
use Rattle.wan_topology.specs.Held.{links_of}
use Rattle.doc_parts.specs.Links.{link_part}
use Rattle.doc_parts.proofs.names.link_specs.Given as goal

abbrev pub invariant-loop-link : goal.invariant-loop-link
invariant-loop-link l = links_of l.specs.items ++ map link_part (map link_view (drop l.link-index l.links)) ≡ map link_part (map link_view l.links)
