use Rattle.std.proofs.Common.{◌≡◌, ◌<◌, ◌∙◌, length, zero-add, get_or, arith}
use Rattle.std.proofs.lemmas.List.{get_or_default}
use Rattle.std.proofs.lemmas.List.FromFn.{map-range_with_len_more}
use Rattle.plain_table.specs.Lines.{line_in}
use Rattle.plain_table.proofs.Rows.{row-read, in_rows}
use Rattle.plain_table.proofs.line.group_lines.Goals as goal

pub group_line-requires-clause-total : goal.group_line-requires-clause-total
group_line-requires-clause-total c =
    let filling = c.args.filling.now in
    let in_plan : c.loop-group.group < length c.args.plan.now = omega arith in
    let row = row-read filling.amounts.items c.loop-group.group c.index-amounts.result.now
    (in_rows filling.amounts.items c.args.plan.now c.loop-group.group c.requires.rows in_plan) c.index-amounts.ensures in
    rw (c.deref-in-loop-group.ensures.value, ← row) (c.requires.sums c.loop-group.group in_plan)

pub loop-group-preserved : goal.loop-group-preserved
loop-group-preserved c =
    let filling = c.args.filling.now in
    let in_plan : c.loop-group.group < length c.args.plan.now = omega arith in
    let row = row-read filling.amounts.items c.loop-group.group c.index-amounts.result.now
    (in_rows filling.amounts.items c.args.plan.now c.loop-group.group c.requires.rows in_plan) c.index-amounts.ensures in
    let share : c.index-share.result.now ≡ get_or filling.shares.items c.loop-group.group 0 =
    c.index-share.ensures ∙ get_or_default filling.shares.items c.loop-group.group c.index-share.result.now 0 (omega (arith, c.requires.shares)) in
    let line : c.in_ok-group_line.field-0 ≡ line_in c.args.plan.now filling c.loop-group.group =
    rw (c.in_ok-firsts.ensures, c.deref.ensures.value, c.deref-in-loop-group.ensures.value, ← row, share) at c.in_ok-group_line.ensures in
    rw (map-range_with_len_more (line_in c.args.plan.now filling) 0 c.loop-group.group c.loop-group.group (zero-add c.loop-group.group), ← c.loop-group.invariant, ← line)
    c.in_ok-push.ensures.items
