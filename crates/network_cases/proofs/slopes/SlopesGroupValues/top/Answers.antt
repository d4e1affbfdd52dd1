use Rattle.network_cases.proofs.SlopesAre.{slopes-are}
use Rattle.network_cases.proofs.slopes.SlopesGroupValues.top.Goals as goal

pub returns-clause-values : goal.returns-clause-values
returns-clause-values c = slopes-are c.args.self.now.slopes.items c.args.self.now.top c.args.self.now.few c.args.self.now.small
