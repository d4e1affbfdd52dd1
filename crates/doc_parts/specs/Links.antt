-- The links of a document.
use Rattle.wan_topology.specs.Network.{Link}
use Rattle.raw_document.specs.Raw as raw

-- a link as it is given to the topology
abbrev pub link_part : raw.Link → Link
link_part link =
    record { name = link.name; from = link.from; to = link.to; capacity = link.capacity }
