use Rattle.plain_table.specs.Reported.{reported_in}
use Rattle.plain_table.proofs.Fitted.{fitted-in}
use Rattle.plain_table.proofs.Made.{made-rows, made-count, made-within}
use Rattle.plain_table.proofs.table.table_of_filling.Goals as goal

pub group_lines-requires : goal.group_lines-requires
group_lines-requires c =
    let fitted = fitted-in c.args.tree.now c.args.topology.now c.args.prefix c.args.plan.now c.what_holds.ensures.tree c.what_holds-2.ensures c.requires.built_on c.requires.clusters in
    made-rows (reported_in c.args.tree.now c.args.topology.now c.args.prefix) c.args.plan.now fitted c.what_holds.ensures.values c.args.filling c.requires.filling

pub limits_of-requires-clause-groups : goal.limits_of-requires-clause-groups
limits_of-requires-clause-groups c =
    let fitted = fitted-in c.args.tree.now c.args.topology.now c.args.prefix c.args.plan.now c.what_holds.ensures.tree c.what_holds-2.ensures c.requires.built_on c.requires.clusters in
    rw (c.deref.ensures.value)
    (made-count (reported_in c.args.tree.now c.args.topology.now c.args.prefix) c.args.plan.now fitted c.what_holds.ensures.values c.args.filling c.requires.filling
    c.in_ok-groups.groups.items c.in_ok-groups.ensures)

pub limits_of-requires-clause-within : goal.limits_of-requires-clause-within
limits_of-requires-clause-within c =
    let fitted = fitted-in c.args.tree.now c.args.topology.now c.args.prefix c.args.plan.now c.what_holds.ensures.tree c.what_holds-2.ensures c.requires.built_on c.requires.clusters in
    rw (c.deref.ensures.value)
    (made-within (reported_in c.args.tree.now c.args.topology.now c.args.prefix) c.args.plan.now fitted c.what_holds.ensures.values c.args.filling c.requires.filling
    c.in_ok-groups.groups.items c.in_ok-groups.ensures)

pub table_of_limits-requires-clause-limits : goal.table_of_limits-requires-clause-limits
table_of_limits-requires-clause-limits c = rw (c.deref.ensures.value) at c.in_ok-limits.ensures
