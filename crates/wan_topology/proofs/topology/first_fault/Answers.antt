use Rattle.std.proofs.Common.{◌≡◌, ◌∙◌, ◌+◌, sym, subst, drop, ◌∷◌, arith}
use Rattle.std.proofs.lemmas.List.{length-map}
use Rattle.wan_topology.specs.Faults.{link_fault}
use Rattle.wan_topology.specs.Held.{link_of, links_of}
use Rattle.wan_topology.proofs.Names.{lent, IsLookedAt, IsLookedAt-with, IsLookedAt-found, IsLookedAt-end, new-lent, drop-links}
use Rattle.wan_topology.proofs.topology.first_fault.Goals as goal
use Rattle.wan_topology.proofs.topology.first_fault.Goals.{After-fault_of}

-- the links from this one on
rest : (c : After-fault_of) → drop c.loop-number.number (links_of c.args.links.now) ≡ link_of c.index-links-number.result ∷ drop (c.loop-number.number + 1) (links_of c.args.links.now)
rest c = drop-links c.args.links.now c.loop-number.number c.index-links-number.result c.loop-number-test.true c.index-links-number.is

looked : (c : After-fault_of) → IsLookedAt (lent c.loop-number.names.keys) c.loop-number.number (link_of c.index-links-number.result ∷ drop (c.loop-number.number + 1) (links_of c.args.links.now)) (links_of c.args.links.now)
looked c = subst (λ later. IsLookedAt (lent c.loop-number.names.keys) c.loop-number.number later (links_of c.args.links.now)) (rest c) c.loop-number.invariant

found : (c : After-fault_of) → c.fault_of.result ≡ link_fault (lent c.loop-number.names.keys) c.loop-number.number (link_of c.index-links-number.result)
found c =
    c.fault_of.ensures (lent c.loop-number.names.keys)
    (new-lent c.loop-number.names.keys c.as_str.result _ c.in_ok-is_new.is_new c.as_str.ensures.value c.in_ok-is_new.ensures.added)

pub returns-in-Some : goal.returns-in-Some
returns-in-Some c =
    let at = (goal.at.returns-in-Some c).After-fault_of in
    sym (IsLookedAt-found (lent c.loop-number.names.keys) c.loop-number.number (link_of c.index-links-number.result) (drop (c.loop-number.number + 1) (links_of c.args.links.now)) (links_of c.args.links.now) c.in-Some.fault
    (looked at) (sym (found at) ∙ c.in-Some.is))

pub loop-number-preserved : goal.loop-number-preserved
loop-number-preserved c =
    let at = (goal.at.loop-number-preserved c).After-fault_of in
    IsLookedAt-with c.loop-number.names.keys c.insert.new.self.keys c.as_str.result c.loop-number.number (link_of c.index-links-number.result) (drop (c.loop-number.number + 1) (links_of c.args.links.now)) (links_of c.args.links.now)
    c.as_str.ensures.value c.in_ok-is_new.ensures.keys (looked at) (sym (found at) ∙ c.in_default.is)

pub returns : goal.returns
returns c =
    sym (IsLookedAt-end (lent c.loop-number.names.keys) c.loop-number.number (links_of c.args.links.now) (omega (arith, c.loop-number-test.false, length-map c.args.links.now link_of)) c.loop-number.invariant)
