use Rattle.std.proofs.Common.{◌∙◌, map, length, ap}
use Rattle.std.proofs.lemmas.List.{length-map}
use Rattle.plain_table.proofs.Made.{made-rows, made-count, made-within}
use Rattle.allocator.proofs.table.table_of_filling_on_threads.Goals as goal

pub group_lines-requires : goal.group_lines-requires
group_lines-requires g c =
    made-rows c.args.reported.now c.args.plan.now c.requires.fitted (rw (c.tree-tree.ensures.same) at c.tree-tree.ensures.values) c.args.filling c.requires.filling

pub all_limits_on_threads-requires-clause-amounts : goal.all_limits_on_threads-requires-clause-amounts
all_limits_on_threads-requires-clause-amounts g c κs within =
    let values = rw (c.tree-tree.ensures.same) at c.tree-tree.ensures.values in
    let amounts = c.deref-2.ensures.value ∙ c.in_ok-amounts.ensures ∙ ap (map (λ line. line.amount)) c.deref.ensures.value in
    rw (c.tree-tree.ensures.same)
    (ap length amounts ∙ length-map c.in_ok-groups.groups.items (λ line. line.amount)
    ∙ made-count c.args.reported.now c.args.plan.now c.requires.fitted values c.args.filling c.requires.filling
    c.in_ok-groups.groups.items c.in_ok-groups.ensures)

pub all_limits_on_threads-requires-clause-within : goal.all_limits_on_threads-requires-clause-within
all_limits_on_threads-requires-clause-within g c κs within =
    let values = rw (c.tree-tree.ensures.same) at c.tree-tree.ensures.values in
    let amounts = c.deref-2.ensures.value ∙ c.in_ok-amounts.ensures ∙ ap (map (λ line. line.amount)) c.deref.ensures.value in
    rw (amounts, c.tree-tree.ensures.same)
    (made-within c.args.reported.now c.args.plan.now c.requires.fitted values c.args.filling c.requires.filling
    c.in_ok-groups.groups.items c.in_ok-groups.ensures)

pub table_of_limits-requires-clause-limits : goal.table_of_limits-requires-clause-limits
table_of_limits-requires-clause-limits g c =
    let amounts = c.deref-2.ensures.value ∙ c.in_ok-amounts.ensures ∙ ap (map (λ line. line.amount)) c.deref.ensures.value in
    rw (amounts, c.tree-tree.ensures.same) at c.in_ok-limits.ensures
