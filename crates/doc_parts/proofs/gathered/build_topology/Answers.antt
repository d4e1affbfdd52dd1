use Rattle.std.proofs.Common.{◌≡◌, subst}
use Rattle.bwe_specs.specs.declared.document_limits.DocumentLimits.{DocumentLimits}
use Rattle.raw_document.specs.Raw.{raw_view}
use Rattle.wan_topology.specs.Network.{network_of}
use Rattle.doc_parts.specs.Passing.{Makes}
use Rattle.doc_parts.specs.Document.{links_of}
use Rattle.doc_refusals.specs.Refusals.{refused_links}
use Rattle.doc_parts.specs.TooMany.{links_fault}
use Rattle.doc_parts.proofs.gathered.build_topology.Goals as goal

pub returns : goal.returns
returns c =
    let links = links_of (raw_view c.args.raw.now) in
    subst (λ (limits : DocumentLimits). Makes c.topology_within.result refused_links (links_fault limits.links links) (λ topology. topology ≡ network_of links))
    c.of.ensures.of (rw c.deref.ensures.value at c.topology_within.ensures)
