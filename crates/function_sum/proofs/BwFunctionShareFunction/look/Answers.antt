use Rattle.function_sum.proofs.Functions.{function-meaning}
use Rattle.function_sum.proofs.BwFunctionShareFunction.look.Goals as goal

pub returns-clause-meaning : goal.returns-clause-meaning
returns-clause-meaning c = function-meaning _ c.look.ensures.function
