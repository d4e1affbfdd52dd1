use Rattle.enforce_run.proofs.Lawful.{written_events_are_lawful}
use Rattle.enforce_run.proofs.law.written_events_are_lawful.Goals as goal

pub returns : goal.returns
returns g c plan =
    written_events_are_lawful g.M.Table.Posted.frame g.M.Table.Posted.covers g.M.Table.Posted.limit_at (g.M.Maker.table_of plan) (g.met.M.Maker.one_frame plan) (g.met.M.Maker.covers_all plan)
