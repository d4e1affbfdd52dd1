use Rattle.std.proofs.Common.{[], ap, ◌∙◌}
use Rattle.board.proofs.open.open_with_table.Goals as goal

-- the table is that of no reports
pub open_desk-requires-clause-covers : goal.open_desk-requires-clause-covers
open_desk-requires-clause-covers g c =
    ap g.M.Table.Posted.covers (c.in_ok-table.ensures.table [] c.requires.absorbed) ∙ g.met.M.Maker.covers_all (g.M.Maker.plan c.args.maker.now) []

pub returns-clause-absorbed : goal.returns-clause-absorbed
returns-clause-absorbed g c = c.table.ensures.absorbed [] c.requires.absorbed
