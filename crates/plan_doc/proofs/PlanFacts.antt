-- The links of the topology are those of the document, and the plan of its parts is the definition's.
use Rattle.std.proofs.Common.{◌≡◌, ℕ, List, length, map, ap, ap₂, ◌∙◌}
use Rattle.std.proofs.lemmas.List.{length-map}
use Rattle.bwe_specs.specs.Allocation.{Plan}
use Rattle.bwe_specs.specs.Paths.{PathGroups}
use Rattle.bwe_specs.specs.Tree.{Cluster}
use Rattle.wan_topology.specs.Network as networks
use Rattle.raw_document.specs.Raw as raw
use Rattle.plan_doc.specs.declared.document.Document as code
use Rattle.doc_parts.specs.Document.{Accepted}
use Rattle.plan_doc.specs.Accepted.{IsDocumentOf}
use Rattle.doc_parts.specs.Links.{link_part}
use Rattle.doc_parts.specs.Plans.{plan_of}
use Rattle.plan_doc.specs.Plans.{plan_in}

pub length-capacities : (links : List raw.Link) → length (networks.network_of (map link_part links)).capacities ≡ length links
length-capacities links = length-map (map link_part links) (λ link. link.capacity) ∙ length-map links link_part

abbrev plan_parts : ℕ → List Cluster → List PathGroups → List ℕ → Plan
plan_parts top clusters groups capacities = record { top = top; clusters = clusters; groups = groups; capacities = capacities }

pub plan-is : (accepted : Accepted) (document : code.Document) → IsDocumentOf accepted document → plan_in document ≡ plan_of accepted
plan-is accepted document is =
    ap (λ tree. plan_parts tree.top tree.clusters document.plan document.topology.capacities) is.tree
    ∙ ap₂ (λ plan topology. plan_parts accepted.top accepted.clusters plan topology.capacities) is.plan is.topology
