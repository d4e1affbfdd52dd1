use Rattle.allocation_laws.proofs.Verdicts.{verdict-right_iff}
use Rattle.allocation_laws.proofs.laws.verdict_law.Goals as goal

pub returns : goal.returns
returns c = verdict-right_iff
