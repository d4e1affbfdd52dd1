use Rattle.std.proofs.Common.{zero-add}
use Rattle.std.proofs.lemmas.List.FromFn.{map-range_with_len_more}
use Rattle.plain_table.specs.Lines.{line_of_place}
use Rattle.plain_table.proofs.line.group_line.Goals as goal

pub loop-place-preserved : goal.loop-place-preserved
loop-place-preserved c =
    rw (map-range_with_len_more (line_of_place c.args.plan.now c.args.closings.now c.args.group c.args.amounts.now) 0 c.loop-place.place c.loop-place.place (zero-add c.loop-place.place), ← c.loop-place.invariant, ← c.closed_link.ensures)
    c.in_ok-push.ensures.items
