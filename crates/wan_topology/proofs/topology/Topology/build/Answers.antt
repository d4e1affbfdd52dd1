use Rattle.std.proofs.Common.{◌≡◌, ◌∙◌, sym, ap, subst, arith, length, [], Some}
use Rattle.std.specs.Vec.Iter.{into_iter_items}
use Rattle.wan_topology.specs.declared.fault.TopologyFault.TheVariants.{TooManyLinks}
use Rattle.wan_topology.specs.Held.{link_of, links_of}
use Rattle.wan_topology.specs.Faults.{first_link_fault, topology_fault}
use Rattle.wan_topology.proofs.Faults.{topology_fault-many, topology_fault-few}
use Rattle.wan_topology.proofs.Builds.{length_links, IsUnderWay, IsUnderWay-with, IsUnderWay-in_range}
use Rattle.wan_topology.proofs.topology.Topology.build.Goals as goal
use Rattle.wan_topology.proofs.topology.Topology.build.Goals.{In_ok-fault}

pub returns-then-count-gt-MAX_LINKS-clause-refused : goal.returns-then-count-gt-MAX_LINKS-clause-refused
returns-then-count-gt-MAX_LINKS-clause-refused c =
    let count : c.len-count.result ≡ length (links_of c.args.links.items) = omega (arith, c.len-count.ensures, c.args.links.ok.0, length_links c.args.links.items) in
    topology_fault-many (links_of c.args.links.items) (omega (arith, count)) ∙ ap (λ n. Some (TooManyLinks n)) (sym count)

-- the first fault of so few links is the one that was looked for
fault : (c : In_ok-fault) → topology_fault (links_of c.args.links.items) ≡ c.in_ok-fault.field-0
fault c =
    topology_fault-few (links_of c.args.links.items) (omega (arith, c.if-count-gt-MAX_LINKS.false, c.len-count.ensures, c.args.links.ok.0, length_links c.args.links.items))
    ∙ ap (λ items. first_link_fault [] 0 (links_of items)) (sym c.deref.ensures.value) ∙ sym c.in_ok-fault.ensures

pub returns-in-Some-clause-refused : goal.returns-in-Some-clause-refused
returns-in-Some-clause-refused c = fault (goal.at.returns-in-Some-clause-refused c).In_ok-fault ∙ c.in-Some.is

pub with_link-requires-clause-capacity : goal.with_link-requires-clause-capacity
with_link-requires-clause-capacity c =
    IsUnderWay-in_range c.loop-link.topology (link_of c.in-Some-link.link) (links_of (into_iter_items c.next.new.self)) (links_of c.args.links.items)
    (subst (λ rest. IsUnderWay c.loop-link.topology (links_of rest) (links_of c.args.links.items)) c.in-Some-link.ensures.steps.0 c.loop-link.invariant)

pub loop-link-preserved : goal.loop-link-preserved
loop-link-preserved c =
    let under = subst (λ rest. IsUnderWay c.loop-link.topology (links_of rest) (links_of c.args.links.items)) c.in-Some-link.ensures.steps.0 c.loop-link.invariant in
    subst (λ topology. IsUnderWay topology (links_of (into_iter_items c.next.new.self)) (links_of c.args.links.items)) (sym c.in_ok-topology.ensures)
    (IsUnderWay-with c.loop-link.topology (link_of c.in-Some-link.link) (links_of (into_iter_items c.next.new.self)) (links_of c.args.links.items) under)

pub returns-clause-accepted : goal.returns-clause-accepted
returns-clause-accepted c = fault (goal.at.returns-clause-accepted c).In_ok-fault ∙ c.in_default.is
