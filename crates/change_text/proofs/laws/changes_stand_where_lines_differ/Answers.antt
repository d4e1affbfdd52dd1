use Rattle.change_text.proofs.LawFacts.{stand_where_they_differ}
use Rattle.change_text.proofs.laws.changes_stand_where_lines_differ.Goals as goal

pub returns : goal.returns
returns c = stand_where_they_differ
