use Rattle.std.proofs.Common.{ℕ, ◌≤◌, List, sum_by, ◌∙◌, subst}
use Rattle.tree_spec.specs.declared.task.Task.{Task}
use Rattle.capped_sum.specs.Index.{capped, IsMost}
use Rattle.capped_sum.proofs.Meanings.{seen-meaning}
use Rattle.capped_sum.proofs.Inverse.{last-most, last-all}
use Rattle.capped_sum.proofs.capped_sum.CappedSumShareFunction.last_share_within.Goals as goal

pub returns-then-not-self-clause-meaning : goal.returns-then-not-self-clause-meaning
returns-then-not-self-clause-meaning c = seen-meaning _ _ c.self.view_is c.what_holds.ensures c.self.invariant.in_range

pub returns-in-None-clause-last : goal.returns-in-None-clause-last
returns-in-None-clause-last c =
    last-all _ _ c.args.amount c.args.top c.self.view_is
    (subst (λ (tasks : List Task). (per_weight : ℕ) → sum_by (capped per_weight) tasks ≤ c.args.amount) c.as_slice.ensures.value c.in-None.ensures)

pub returns-in-None-clause-meaning : goal.returns-in-None-clause-meaning
returns-in-None-clause-meaning c = seen-meaning _ _ c.self.view_is c.what_holds.ensures c.self.invariant.in_range

pub returns-in-Some-clause-last : goal.returns-in-Some-clause-last
returns-in-Some-clause-last c =
    c.last_share_within.ensures.last
    ∙ last-most _ _ c.args.amount _ c.args.top c.self.view_is (subst (λ (tasks : List Task). IsMost tasks c.args.amount c.in-Some.per_weight) c.as_slice.ensures.value c.in-Some.ensures)

pub returns-in-Some-clause-meaning : goal.returns-in-Some-clause-meaning
returns-in-Some-clause-meaning c = seen-meaning _ _ c.self.view_is c.what_holds.ensures c.self.invariant.in_range
