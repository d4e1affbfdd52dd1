use Rattle.std.proofs.Common.{◌∙◌, ap, sym, arith}
use Rattle.bwe_specs.specs.Lists.{lists_of}
use Rattle.tiers.specs.Fillings.{Fillings, wan_by}
use Rattle.tiers.proofs.Step.{step-never, step-bound}
use Rattle.tiers.proofs.Made.{own-has_line, made-count, made-within}
use Rattle.tiers.proofs.Complete.{whole-is_table, whole-table, whole-feasible, whole-asked, whole-shared, whole-unwasted, whole-in_any_order}
use Rattle.tiers.proofs.fill.fill_tiers.Goals as goal

pub tiered_lines-requires-clause-has : goal.tiered_lines-requires-clause-has
tiered_lines-requires-clause-has c =
    own-has_line (wan_by c.args.tree.now c.args.topology c.args.plan.now) c.args.tiers.now
    (step-never c.args.tree.now c.args.topology c.args.plan.now c.args.tiers.now c.requires.groups c.what_holds.ensures.values)
    (step-bound c.args.tree.now c.args.topology c.args.plan.now c.args.tiers.now c.requires.groups c.what_holds.ensures.values)
    c.in_ok-fillings.fillings c.in_ok-fillings.ensures c.requires.one_each

pub limits_of-requires-clause-groups : goal.limits_of-requires-clause-groups
limits_of-requires-clause-groups c =
    rw (c.deref.ensures.value)
    (made-count (wan_by c.args.tree.now c.args.topology c.args.plan.now) c.args.tiers.now
    (step-never c.args.tree.now c.args.topology c.args.plan.now c.args.tiers.now c.requires.groups c.what_holds.ensures.values)
    (step-bound c.args.tree.now c.args.topology c.args.plan.now c.args.tiers.now c.requires.groups c.what_holds.ensures.values)
    c.in_ok-fillings.fillings c.in_ok-fillings.ensures c.requires.one_each
    c.in_ok-groups.groups.items c.in_ok-groups.ensures ∙ sym c.requires.groups)

pub limits_of-requires-clause-within : goal.limits_of-requires-clause-within
limits_of-requires-clause-within c =
    rw (c.deref.ensures.value)
    (λ group lt.
    made-within (wan_by c.args.tree.now c.args.topology c.args.plan.now) c.args.tiers.now
    (step-never c.args.tree.now c.args.topology c.args.plan.now c.args.tiers.now c.requires.groups c.what_holds.ensures.values)
    (step-bound c.args.tree.now c.args.topology c.args.plan.now c.args.tiers.now c.requires.groups c.what_holds.ensures.values)
    c.in_ok-fillings.fillings c.in_ok-fillings.ensures c.requires.one_each
    c.in_ok-groups.groups.items c.in_ok-groups.ensures group (omega (arith, c.requires.groups)))

pub invariant_of-result : goal.invariant_of-result
invariant_of-result c =
    whole-is_table c.args.tree.now c.args.topology c.args.plan.now c.args.tiers.now c.requires.groups c.what_holds.ensures.values
    c.in_ok-fillings.fillings c.in_ok-fillings.ensures c.requires.one_each
    (lists_of c.fillings.inside.closings.items) (ap (λ (fillings : Fillings). fillings.closings) c.fillings.view_is)
    c.fillings.inside.loads.items (ap (λ (fillings : Fillings). fillings.loads) c.fillings.view_is)
    c.in_ok-groups.groups.items c.in_ok-groups.ensures c.in_ok-limits.limits.items (rw (c.deref.ensures.value) at c.in_ok-limits.ensures)
    c.args.prefix c.what_holds.ensures.tree c.what_holds-2.ensures c.what_holds-3.ensures

pub returns-clause-table : goal.returns-clause-table
returns-clause-table c =
    whole-table c.args.tree.now c.args.topology c.args.plan.now c.args.tiers.now c.requires.groups c.what_holds.ensures.values
    c.in_ok-fillings.fillings c.in_ok-fillings.ensures c.requires.one_each
    (lists_of c.fillings.inside.closings.items) (ap (λ (fillings : Fillings). fillings.closings) c.fillings.view_is)
    c.fillings.inside.loads.items (ap (λ (fillings : Fillings). fillings.loads) c.fillings.view_is)
    c.in_ok-groups.groups.items c.in_ok-groups.ensures c.in_ok-limits.limits.items (rw (c.deref.ensures.value) at c.in_ok-limits.ensures)
    c.args.prefix

pub returns-clause-feasible : goal.returns-clause-feasible
returns-clause-feasible c =
    whole-feasible c.args.tree.now c.args.topology c.args.plan.now c.args.tiers.now c.requires.groups c.what_holds.ensures.values
    c.in_ok-fillings.fillings c.in_ok-fillings.ensures c.requires.one_each
    (lists_of c.fillings.inside.closings.items) (ap (λ (fillings : Fillings). fillings.closings) c.fillings.view_is)
    c.fillings.inside.loads.items (ap (λ (fillings : Fillings). fillings.loads) c.fillings.view_is)
    c.in_ok-groups.groups.items c.in_ok-groups.ensures c.in_ok-limits.limits.items (rw (c.deref.ensures.value) at c.in_ok-limits.ensures)

pub returns-clause-shared : goal.returns-clause-shared
returns-clause-shared c =
    whole-shared c.args.tree.now c.args.topology c.args.plan.now c.args.tiers.now c.requires.groups c.what_holds.ensures.values
    c.in_ok-fillings.fillings c.in_ok-fillings.ensures c.requires.one_each
    (lists_of c.fillings.inside.closings.items) (ap (λ (fillings : Fillings). fillings.closings) c.fillings.view_is)
    c.fillings.inside.loads.items (ap (λ (fillings : Fillings). fillings.loads) c.fillings.view_is)
    c.in_ok-groups.groups.items c.in_ok-groups.ensures c.in_ok-limits.limits.items (rw (c.deref.ensures.value) at c.in_ok-limits.ensures)
    c.args.prefix

pub returns-clause-unwasted : goal.returns-clause-unwasted
returns-clause-unwasted c =
    whole-unwasted c.args.tree.now c.args.topology c.args.plan.now c.args.tiers.now c.requires.groups c.what_holds.ensures.values
    c.in_ok-fillings.fillings c.in_ok-fillings.ensures c.requires.one_each
    (lists_of c.fillings.inside.closings.items) (ap (λ (fillings : Fillings). fillings.closings) c.fillings.view_is)
    c.fillings.inside.loads.items (ap (λ (fillings : Fillings). fillings.loads) c.fillings.view_is)
    c.in_ok-groups.groups.items c.in_ok-groups.ensures c.in_ok-limits.limits.items (rw (c.deref.ensures.value) at c.in_ok-limits.ensures)
    c.args.prefix

pub returns-clause-asked : goal.returns-clause-asked
returns-clause-asked c =
    whole-asked c.args.tree.now c.args.topology c.args.plan.now c.args.tiers.now c.requires.groups c.what_holds.ensures.values
    c.in_ok-fillings.fillings c.in_ok-fillings.ensures c.requires.one_each
    (lists_of c.fillings.inside.closings.items) (ap (λ (fillings : Fillings). fillings.closings) c.fillings.view_is)
    c.fillings.inside.loads.items (ap (λ (fillings : Fillings). fillings.loads) c.fillings.view_is)
    c.in_ok-groups.groups.items c.in_ok-groups.ensures c.in_ok-limits.limits.items (rw (c.deref.ensures.value) at c.in_ok-limits.ensures)
    c.args.prefix c.what_holds.ensures.tree

pub returns-clause-in_any_order : goal.returns-clause-in_any_order
returns-clause-in_any_order c =
    whole-in_any_order c.args.tree.now c.args.topology c.args.plan.now c.args.tiers.now c.requires.groups c.what_holds.ensures.values
    c.in_ok-fillings.fillings c.in_ok-fillings.ensures c.requires.one_each
    (lists_of c.fillings.inside.closings.items) (ap (λ (fillings : Fillings). fillings.closings) c.fillings.view_is)
    c.fillings.inside.loads.items (ap (λ (fillings : Fillings). fillings.loads) c.fillings.view_is)
    c.in_ok-groups.groups.items c.in_ok-groups.ensures c.in_ok-limits.limits.items (rw (c.deref.ensures.value) at c.in_ok-limits.ensures)
    c.args.prefix c.what_holds.ensures.tree
