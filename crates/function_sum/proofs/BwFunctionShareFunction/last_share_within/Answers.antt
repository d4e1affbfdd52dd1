use Rattle.function_sum.proofs.Functions.{function-meaning}
use Rattle.function_sum.proofs.BwFunctionShareFunction.last_share_within.Goals as goal

pub returns-clause-meaning : goal.returns-clause-meaning
returns-clause-meaning c = function-meaning _ c.what_holds.ensures
