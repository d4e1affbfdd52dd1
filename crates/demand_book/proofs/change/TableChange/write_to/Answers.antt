use Rattle.std.proofs.Common.{◌≡◌, ◌∙◌, sym, subst}
use Rattle.std.specs.Vec.{with_items}
use Rattle.std.proofs.lemmas.List.{with_items_is}
use Rattle.bwe_specs.specs.Allocation.{Table}
use Rattle.limit_table.specs.Tables.{IsTable}
use Rattle.limit_table.proofs.Parts.{same-parts}
use Rattle.demand_book.specs.TableChanges.{Leads}
use Rattle.demand_book.proofs.change.TableChange.write_to.Goals as goal
use Rattle.demand_book.proofs.change.TableChange.write_to.Goals.{After-write_numbers-2}

pub write_numbers-requires : goal.write_numbers-requires
write_numbers-requires c =
    let leads = rw (← c.self.view_is, ← c.table.view_is) at c.requires.leads.1 in
    record { changes = (c.requires.leads.0.limits, rw (c.deref_mut.ensures.value, c.deref.ensures.value) leads.limits) }

pub write_lines-requires : goal.write_lines-requires
write_lines-requires c =
    let leads = rw (← c.self.view_is, ← c.table.view_is) at c.requires.leads.1 in
    record { changes = (c.requires.leads.0.groups, rw c.deref_mut-2.ensures.value leads.groups) }

pub write_numbers-requires-2 : goal.write_numbers-requires-2
write_numbers-requires-2 c =
    let leads = rw (← c.self.view_is, ← c.table.view_is) at c.requires.leads.1 in
    record { changes = (c.requires.leads.0.loads, rw (c.deref_mut-3.ensures.value, c.deref-2.ensures.value) leads.loads) }

limits_written : (c : After-write_numbers-2) (later : Table) → Leads c.args.table.now c.args.self later → (with_items c.table.inside.limits c.write_numbers.new.numbers).items ≡ later.limits
limits_written c later leads =
    let parts = rw (← c.self.view_is, ← c.table.view_is) at leads in
    with_items_is c.table.inside.limits c.write_numbers.new.numbers (c.write_numbers.auto.numbers ∙ c.deref_mut.ensures.len)
    ∙ c.write_numbers.ensures later.limits (rw (c.deref_mut.ensures.value, c.deref.ensures.value) parts.limits)

groups_written : (c : After-write_numbers-2) (later : Table) → Leads c.args.table.now c.args.self later → (with_items c.table.inside.groups c.write_lines.new.lines).items ≡ later.groups
groups_written c later leads =
    let parts = rw (← c.self.view_is, ← c.table.view_is) at leads in
    with_items_is c.table.inside.groups c.write_lines.new.lines (c.write_lines.auto.lines ∙ c.deref_mut-2.ensures.len)
    ∙ c.write_lines.ensures later.groups (rw c.deref_mut-2.ensures.value parts.groups)

loads_written : (c : After-write_numbers-2) (later : Table) → Leads c.args.table.now c.args.self later → (with_items c.table.inside.loads c.write_numbers-2.new.numbers).items ≡ later.loads
loads_written c later leads =
    let parts = rw (← c.self.view_is, ← c.table.view_is) at leads in
    with_items_is c.table.inside.loads c.write_numbers-2.new.numbers (c.write_numbers-2.auto.numbers ∙ c.deref_mut-3.ensures.len)
    ∙ c.write_numbers-2.ensures later.loads (rw (c.deref_mut-3.ensures.value, c.deref-2.ensures.value) parts.loads)

pub returns-in-Some : goal.returns-in-Some
returns-in-Some c = λ later leads.
    let parts = rw (← c.self.view_is, ← c.table.view_is) at leads in
    let b = (goal.at.returns-in-Some c).After-write_numbers-2 in
    same-parts _ _ _ _ _ _ _ _ _ _ parts.prefix (limits_written b later leads) (groups_written b later leads) (loads_written b later leads)
    (rw c.in-Some.is at parts.closings).1

pub returns : goal.returns
returns c = λ later leads.
    let parts = rw (← c.self.view_is, ← c.table.view_is) at leads in
    let b = (goal.at.returns c).After-write_numbers-2 in
    same-parts _ _ _ _ _ _ _ _ _ _ parts.prefix (limits_written b later leads) (groups_written b later leads) (loads_written b later leads)
    (rw c.in_default.is at parts.closings)

pub invariant_of-table : goal.invariant_of-table
invariant_of-table c =
    let leads = c.requires.leads in
    subst IsTable (sym (returns-in-Some c leads.0 leads.1)) leads.1.bounded

pub invariant_of-table-in_default : goal.invariant_of-table-in_default
invariant_of-table-in_default c =
    let later = c.requires.leads.0 in
    let leads = c.requires.leads.1 in
    let parts = rw (← c.self.view_is, ← c.table.view_is) at leads in
    let b = (goal.at.invariant_of-table-in_default c).After-write_numbers-2 in
    subst IsTable
    (sym (same-parts _ _ _ _ _ _ _ _ _ _ parts.prefix (limits_written b later leads) (groups_written b later leads) (loads_written b later leads)
    (rw c.in_default.is at parts.closings)))
    leads.bounded
