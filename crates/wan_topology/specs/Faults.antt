-- Why links are refused: the first fault of what is given.
use Rattle.std.specs.Prelude.{◌≡◌, ℕ, suc, List, [], ◌∷◌, ◌++◌, length, nat_lt, if◌then◌else◌, Option, Some, None}
use Rattle.std.specs.Option.{option_or}
use Rattle.std.specs.List.{list_any}
use Rattle.std.specs.Str.{bytes_eq}
use Rattle.wan_topology.specs.declared.fault.TopologyFault.{TopologyFault}
use Rattle.wan_topology.specs.declared.fault.TopologyFault.TheVariants.{TooManyLinks, RepeatedLink, SelfLink, CapacityOverMax}
use Rattle.wan_topology.specs.declared.fault.TopologyError.{TopologyError}
use Rattle.wan_topology.specs.declared.fault.TopologyError.TheVariants.{Refused, OutOfMemory}
use Rattle.wan_topology.specs.Network.{Link}

-- the fault of the link of this number, after links of these names
unfoldable pub link_fault : List (List ℕ) → ℕ → Link → Option TopologyFault
link_fault names number link =
    if list_any (bytes_eq link.name) names then Some (RepeatedLink number) else
    (if bytes_eq link.from link.to then Some (SelfLink number) else
    (if nat_lt 1_000_000_000_000 link.capacity then Some (CapacityOverMax number) else None))

-- the first fault of links, the first of which has this number, after links of these names
unfoldable pub first_link_fault : List (List ℕ) → ℕ → List Link → Option TopologyFault
first_link_fault names number [] = None
first_link_fault names number (link ∷ later) =
    option_or (link_fault names number link)
    (first_link_fault (names ++ link.name ∷ []) (suc number) later)

-- the fault of the links of an input: their number is looked at first
unfoldable pub topology_fault : List Link → Option TopologyFault
topology_fault links =
    if nat_lt 65_536 (length links) then Some (TooManyLinks (length links))
    else first_link_fault [] 0 links

-- the error names this fault, or says that memory ran out
abbrev pub TellsFault : Option TopologyFault → TopologyError → Type 0
TellsFault fault (Refused told) = fault ≡ Some told
TellsFault fault OutOfMemory = Unit {0}
