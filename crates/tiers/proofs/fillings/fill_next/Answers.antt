use Rattle.tiers.proofs.Step.{step-lower-links, step-lower-fit}
use Rattle.tiers.proofs.Step.{step-take-links, step-take-fit, step-next}
use Rattle.tiers.proofs.fillings.fill_next.Goals as goal

pub lower-requires-clause-links : goal.lower-requires-clause-links
lower-requires-clause-links c =
    rw (c.deref.ensures.value)
    (step-lower-links c.args.tree.now c.requires.filled.0 c.args.plan.now c.args.tiers.now
    c.requires.groups c.what_holds.ensures.values c.args.tier c.args.topology.now
    c.args.fillings.now c.requires.filled.2 c.in_ok-filling.filling c.in_ok-filling.ensures)

pub lower-requires-clause-fit : goal.lower-requires-clause-fit
lower-requires-clause-fit c =
    rw (c.deref.ensures.value)
    (step-lower-fit c.args.tree.now c.requires.filled.0 c.args.plan.now c.args.tiers.now
    c.requires.groups c.what_holds.ensures.values c.args.tier c.args.topology.now
    c.args.fillings.now c.requires.filled.2 c.in_ok-filling.filling c.in_ok-filling.ensures)

pub take-requires-clause-links : goal.take-requires-clause-links
take-requires-clause-links c =
    step-take-links c.args.tree.now c.requires.filled.0 c.args.plan.now c.args.tiers.now
    c.requires.groups c.what_holds.ensures.values c.args.tier c.args.topology.now
    c.args.fillings.now c.requires.filled.2 c.in_ok-filling.filling c.in_ok-filling.ensures

pub take-requires-clause-fit : goal.take-requires-clause-fit
take-requires-clause-fit c =
    step-take-fit c.args.tree.now c.requires.filled.0 c.args.plan.now c.args.tiers.now
    c.requires.groups c.what_holds.ensures.values c.args.tier c.args.topology.now
    c.args.fillings.now c.requires.filled.2 c.in_ok-filling.filling c.in_ok-filling.ensures
    c.requires.filled.1

pub returns : goal.returns
returns c =
    λ initial filled.
    step-next c.args.tree.now initial c.args.plan.now c.args.tiers.now c.requires.groups
    c.what_holds.ensures.values c.args.tier c.args.topology.now c.args.fillings.now filled
    c.in_ok-filling.filling c.in_ok-filling.ensures
    c.lower.new.topology (rw (c.deref.ensures.value) at c.lower.ensures)
    c.take.new.self c.in_ok-take.ensures
