use Rattle.table_text.proofs.table.push_limits.Goals as goal

pub returns : goal.returns
returns c =
    rw (c.in_ok-push_values-2.ensures, c.in_ok-push_groups.ensures, c.in_ok-push_values.ensures, c.total_in.ensures)
    at c.end_with_number.ensures
