use Rattle.std.proofs.Common.{◌≡◌, ◌∙◌, map, length, ap, sym, subst}
use Rattle.std.proofs.lemmas.List.{length-map}
use Rattle.plain_table.specs.Reported.{Reported}
use Rattle.plain_table.specs.Tables.{table_by}
use Rattle.plain_table.proofs.Made.{made-rows, made-count, made-within}
use Rattle.allocator.proofs.table.remade_table.Goals as goal

pub group_lines-requires : goal.group_lines-requires
group_lines-requires c =
    made-rows c.args.reported.now c.args.plan.now c.requires (rw (c.tree-tree.ensures.same) at c.tree-tree.ensures.values) c.in_ok-filling.filling c.in_ok-filling.ensures.filling

pub limits-requires-clause-amounts : goal.limits-requires-clause-amounts
limits-requires-clause-amounts c =
    let values = rw (c.tree-tree.ensures.same) at c.tree-tree.ensures.values in
    let amounts = c.deref-2.ensures.value ∙ c.in_ok-amounts.ensures ∙ ap (map (λ line. line.amount)) c.deref.ensures.value in
    ap length amounts ∙ length-map c.in_ok-groups.groups.items (λ line. line.amount)
    ∙ made-count c.args.reported.now c.args.plan.now c.requires values c.in_ok-filling.filling c.in_ok-filling.ensures.filling
    c.in_ok-groups.groups.items c.in_ok-groups.ensures
    ∙ ap (λ (reported : Reported). length reported.tree.clusters) (sym c.in_ok-filling.ensures.same)

pub limits-requires-clause-within : goal.limits-requires-clause-within
limits-requires-clause-within c =
    let values = rw (c.tree-tree.ensures.same) at c.tree-tree.ensures.values in
    let amounts = c.deref-2.ensures.value ∙ c.in_ok-amounts.ensures ∙ ap (map (λ line. line.amount)) c.deref.ensures.value in
    rw (amounts, c.in_ok-filling.ensures.same)
    (made-within c.args.reported.now c.args.plan.now c.requires values c.in_ok-filling.filling c.in_ok-filling.ensures.filling
    c.in_ok-groups.groups.items c.in_ok-groups.ensures)

pub table_of_limits-requires-clause-limits : goal.table_of_limits-requires-clause-limits
table_of_limits-requires-clause-limits c =
    let amounts = c.deref-2.ensures.value ∙ c.in_ok-amounts.ensures ∙ ap (map (λ line. line.amount)) c.deref.ensures.value in
    rw (c.in_ok-limits.ensures.same) (rw (amounts) at c.in_ok-limits.ensures.limits)

pub returns-clause-table : goal.returns-clause-table
returns-clause-table c =
    subst (λ (reported : Reported). c.table_of_limits.result ≡ table_by reported c.args.plan.now)
    (c.in_ok-limits.ensures.same ∙ c.in_ok-filling.ensures.same) c.table_of_limits.ensures
