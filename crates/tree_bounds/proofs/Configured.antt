-- What a configured function and the children's sum tell of a node's value without a search.
use Rattle.std.proofs.Common.{◌≡◌, ℕ, ◌+◌, ◌≤◌, min, Some, inl, inr, arith}
use Rattle.std.proofs.lemmas.Bool.{cases_lt}
use Rattle.bwe_specs.specs.FunctionValue.{function_value}
use Rattle.bwe_specs.specs.Tree.{inner_share}
use Rattle.bwe_specs.proofs.ShareFunctions.{inner_share-fits, inner_share-le, inner_share-greatest}
use Rattle.bw_function.specs.BwFunction.{Function, IsBwFunction}
use Rattle.bw_function.specs.Rise.{RisesAtMost}
use Rattle.function_sum.specs.Meaning.{IsMeaning}
use Rattle.tree_spec.specs.States.{transformed}
use Rattle.policy_tree.proofs.Transforms.{transformed-meaning}

-- under a configured function the value is at most what that gives
pub transformed-fits : (function : Function) (sum : ℕ → ℕ) (share : ℕ) → IsMeaning sum → transformed (Some function) sum share ≤ function_value function.points share
unfolding transformed
transformed-fits function sum share is = inner_share-fits function.top function.points sum share is.starts

-- and no more than what the children have at the top
pub transformed-within : (function : Function) (sum : ℕ → ℕ) (share : ℕ) → IsMeaning sum → transformed (Some function) sum share ≤ sum function.top
unfolding transformed
transformed-within function sum share is =
    is.grows (inner_share function.top function.points sum share) function.top (inner_share-le function.top function.points sum share)

-- and no less than either, less what the children rise at most: else the next inner share would do
pub transformed-near : (function : Function) (sum : ℕ → ℕ) (share most : ℕ) → IsMeaning sum → RisesAtMost sum most
    → min (function_value function.points share) (sum function.top) ≤ transformed (Some function) sum share + most
unfolding transformed
transformed-near function sum share most is rises =
    let inner = inner_share function.top function.points sum share in
    elim (cases_lt inner function.top) [
      | inl lower ↦
          elim (cases_lt (function_value function.points share) (sum (inner + 1))) [
            | inl over ↦ omega (arith, rises inner)
            | inr fits ↦
                let next : inner + 1 ≤ inner = inner_share-greatest function.top function.points sum share (inner + 1) (omega arith) fits in
                absurd (omega arith)
          ]
      | inr full ↦ omega (arith, is.grows function.top inner full)
    ]

-- so it rises at most as the function and the children together
pub transformed-rises : (function : Function) (sum : ℕ → ℕ) (parent most : ℕ) → IsMeaning sum
    → RisesAtMost (function_value function.points) parent → RisesAtMost sum most → RisesAtMost (transformed (Some function) sum) (parent + most)
transformed-rises function sum parent most is above below share =
    omega (
      arith,
      transformed-near function sum share most is below,
      transformed-fits function sum (share + 1) is,
      transformed-within function sum (share + 1) is,
      above share,
    )

-- where the function gives no less than the value at a higher share, that value is reached
pub transformed-full : (function : Function) (sum : ℕ → ℕ) (share higher : ℕ) → IsBwFunction function → IsMeaning sum → share ≤ higher
    → transformed (Some function) sum higher ≤ function_value function.points share → transformed (Some function) sum share ≡ transformed (Some function) sum higher
unfolding transformed
transformed-full function sum share higher kept is below full =
    let inner = inner_share function.top function.points sum in
    omega (
      arith,
      is.grows (inner higher) (inner share) (inner_share-greatest function.top function.points sum share (inner higher) (inner_share-le function.top function.points sum higher) full),
      (transformed-meaning (Some function) sum kept is).grows share higher below,
    )
