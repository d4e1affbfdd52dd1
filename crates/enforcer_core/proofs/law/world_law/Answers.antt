use Rattle.enforcer_core.proofs.Runs.{law}
use Rattle.enforcer_core.proofs.law.world_law.Goals as goal

pub returns : goal.returns
returns g c = law g.T.Posted.frame g.T.Posted.covers g.T.Posted.limit_at
