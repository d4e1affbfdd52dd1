use Rattle.function_sum.specs.Meaning.{IsMeaning}
use Rattle.tree_spec.specs.Tasks.{tasks_value}
use Rattle.capped_sum.proofs.Meanings.{seen-meaning}
use Rattle.capped_sum.proofs.capped_sum.CappedSumShareFunction.look.Goals as goal
use Rattle.capped_sum.proofs.capped_sum.CappedSumShareFunction.look.Goals.{After-look-per_weight}

meaning : (c : After-look-per_weight) → IsMeaning (tasks_value c.args.self.now)
meaning c = seen-meaning _ _ c.self.view_is c.look-per_weight.ensures.function c.self.invariant.in_range

pub returns-then-not-self-clause-meaning : goal.returns-then-not-self-clause-meaning
returns-then-not-self-clause-meaning c = meaning (goal.at.returns-then-not-self-clause-meaning c).After-look-per_weight

pub returns-clause-meaning : goal.returns-clause-meaning
returns-clause-meaning c = meaning (goal.at.returns-clause-meaning c).After-look-per_weight
