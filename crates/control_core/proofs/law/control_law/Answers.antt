use Rattle.control_core.proofs.Runs.{law}
use Rattle.control_core.proofs.law.control_law.Goals as goal

pub returns : goal.returns
returns g c plan = law (λ reports task. g.M.Table.Posted.limit_at (g.M.Maker.table_of plan reports) task)
