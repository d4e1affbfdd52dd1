use Rattle.tiers.proofs.Step.{step-first, step-built_on}
use Rattle.tiers.proofs.fillings.fill_each.Goals as goal

pub loop-tier-init : goal.loop-tier-init
loop-tier-init c =
    step-first c.args.tree.now c.args.topology c.args.plan.now c.args.tiers.now c.requires.groups c.what_holds.ensures.values
    c.links.result c.links.ensures.count c.in_ok-fillings.fillings c.in_ok-fillings.ensures

pub fill_next-requires-clause-built_on : goal.fill_next-requires-clause-built_on
fill_next-requires-clause-built_on c =
    step-built_on c.args.tree.now c.args.topology c.args.plan.now c.args.tiers.now c.requires.groups
    c.what_holds.ensures.values c.loop-tier.tier c.loop-tier.topology c.loop-tier.fillings
    c.loop-tier.invariant c.requires.built_on

pub fill_next-requires-clause-filled : goal.fill_next-requires-clause-filled
fill_next-requires-clause-filled c =
    (c.args.topology, c.links.ensures.network, c.loop-tier.invariant)

pub loop-tier-preserved : goal.loop-tier-preserved
loop-tier-preserved c = c.in_ok-fill_next.ensures c.args.topology c.loop-tier.invariant
