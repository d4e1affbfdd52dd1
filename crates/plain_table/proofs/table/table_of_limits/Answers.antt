use Rattle.std.proofs.Common.{refl}
use Rattle.plain_table.specs.Reported.{reported_in}
use Rattle.plain_table.proofs.Fitted.{fitted-in}
use Rattle.plain_table.proofs.Made.{made-table, made-is_table}
use Rattle.plain_table.proofs.table.table_of_limits.Goals as goal

pub invariant_of-result : goal.invariant_of-result
invariant_of-result c =
    let tree = c.args.tree.now in
    let network = c.args.topology.now in
    let groups = c.args.plan.now in
    made-is_table (reported_in tree network c.args.prefix) groups
    (fitted-in tree network c.args.prefix groups c.what_holds.ensures.tree c.what_holds-3.ensures c.requires.built_on c.requires.clusters)
    c.what_holds.ensures.values c.args.filling c.requires.filling
    c.args.groups.items c.requires.groups c.args.limits.items c.args.filling.loads.items c.args.filling.closings.items
    c.requires.limits refl refl c.what_holds.ensures.tree c.what_holds-2.ensures

pub returns : goal.returns
returns c =
    let tree = c.args.tree.now in
    let network = c.args.topology.now in
    let groups = c.args.plan.now in
    made-table (reported_in tree network c.args.prefix) groups
    (fitted-in tree network c.args.prefix groups c.what_holds.ensures.tree c.what_holds-3.ensures c.requires.built_on c.requires.clusters)
    c.what_holds.ensures.values c.args.filling c.requires.filling
    c.args.groups.items c.requires.groups c.args.limits.items c.args.filling.loads.items c.args.filling.closings.items
    c.requires.limits refl refl
