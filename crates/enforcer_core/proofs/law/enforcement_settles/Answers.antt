use Rattle.enforcer_core.proofs.Settling.{settles}
use Rattle.enforcer_core.proofs.law.enforcement_settles.Goals as goal

pub returns : goal.returns
returns g c = settles g.T.Posted.frame g.T.Posted.covers g.T.Posted.limit_at
