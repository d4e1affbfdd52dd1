-- The plan of an accepted document.
use Rattle.bwe_specs.specs.Allocation.{Plan}
use Rattle.wan_topology.specs.Network.{network_of}
use Rattle.bwe_specs.specs.Given.{path_groups_of}
use Rattle.doc_parts.specs.Document.{Accepted}

-- the plan, as the definition reads it; `plan_in` of `plan_doc` is as the parts of the code have it
abbrev pub plan_of : Accepted → Plan
plan_of accepted = record {
  top = accepted.top;
  clusters = accepted.clusters;
  groups = path_groups_of accepted.groups;
  capacities = (network_of accepted.links).capacities;
}
