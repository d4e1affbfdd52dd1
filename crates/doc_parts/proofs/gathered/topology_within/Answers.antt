use Rattle.std.proofs.Common.{◌≡◌, length, map, Some, ap, sym, subst, ◌∙◌, arith, lt-ltb, le-ltb}
use Rattle.std.proofs.lemmas.List.{length-map}
use Rattle.raw_document.specs.Raw.{link_view}
use Rattle.wan_topology.specs.declared.fault.TopologyFault.TheVariants.{TooManyLinks}
use Rattle.wan_topology.specs.Network.{network_of}
use Rattle.doc_parts.specs.Passing.{Makes}
use Rattle.doc_parts.specs.Document.{unless}
use Rattle.doc_parts.specs.Links.{link_part}
use Rattle.doc_refusals.specs.Refusals.{refused_links}
use Rattle.doc_parts.proofs.TooManyFacts.{many_links, few_links}
use Rattle.doc_parts.proofs.gathered.topology_within.Goals as goal

pub returns-then-count-most : goal.returns-then-count-most
returns-then-count-most c =
    let links = map link_part (map link_view c.args.links.now) in
    let count : length links ≡ length c.args.links.now = length-map (map link_view c.args.links.now) link_part ∙ length-map c.args.links.now link_view in
    ap (unless refused_links) (many_links c.args.most links (lt-ltb c.args.most (length links) (omega (arith, count, c.if-count-most.true))) ∙ ap (λ n. Some (TooManyLinks n)) count)

pub returns : goal.returns
returns c =
    let links = map link_part (map link_view c.args.links.now) in
    let count : length links ≡ length c.args.links.now = length-map (map link_view c.args.links.now) link_part ∙ length-map c.args.links.now link_view in
    subst (λ fault. Makes c.topology_of.result refused_links fault (λ topology. topology ≡ network_of links))
    (sym (few_links c.args.most links (le-ltb c.args.most (length links) (omega (arith, count, c.if-count-most.false)))))
    c.topology_of.ensures
