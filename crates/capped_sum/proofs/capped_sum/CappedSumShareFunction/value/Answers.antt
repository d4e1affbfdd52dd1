use Rattle.function_sum.specs.Meaning.{IsMeaning}
use Rattle.tree_spec.specs.Tasks.{tasks_value}
use Rattle.capped_sum.proofs.Meanings.{seen-meaning}
use Rattle.capped_sum.proofs.capped_sum.CappedSumShareFunction.value.Goals as goal
use Rattle.capped_sum.proofs.capped_sum.CappedSumShareFunction.value.Goals.{After-value-per_weight}

meaning : (c : After-value-per_weight) → IsMeaning (tasks_value c.args.self.now)
meaning c = seen-meaning _ _ c.self.view_is c.value-per_weight.ensures.function c.self.invariant.in_range

pub returns-then-self-clause-meaning : goal.returns-then-self-clause-meaning
returns-then-self-clause-meaning c = meaning (goal.at.returns-then-self-clause-meaning c).After-value-per_weight

pub returns-else-self-clause-meaning : goal.returns-else-self-clause-meaning
returns-else-self-clause-meaning c = meaning (goal.at.returns-else-self-clause-meaning c).After-value-per_weight
