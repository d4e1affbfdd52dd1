-- By how much a capped sum rises at most from each share to the next.
use Rattle.std.proofs.Common.{◌≡◌, ℕ, ◌+◌, ◌*◌, ◌≤◌, List, [], ◌∷◌, sum_by, subst, arith, ap, min, inl, inr}
use Rattle.std.proofs.lemmas.Bool.{cases_lt}
use Rattle.std.proofs.Math.Nat.{mul-le-mul_left}
use Rattle.std.proofs.lemmas.List.Sums.{sum_by-cons}
use Rattle.bwe_specs.specs.FunctionValue.{function_value}
use Rattle.bwe_specs.specs.declared.limits.TheConstants.{MAX_TOTAL}
use Rattle.bw_function.specs.Rise.{RisesAtMost}
use Rattle.tree_spec.specs.declared.task.Task.{Task}
use Rattle.tree_spec.specs.Tasks.{AreInRange, Tasks, tasks_value}
use Rattle.capped_sum.specs.Index.{capped}
use Rattle.capped_sum.proofs.Sums.{capped-few}

-- where the function has at most so much more, so has each task for each unit of its weight
capped-rises : (low high most : ℕ) → high ≤ low + most → (tasks : List Task)
    → sum_by (capped high) tasks ≤ sum_by (capped low) tasks + sum_by (λ task. task.weight) tasks * most
capped-rises low high most le [] = omega arith
capped-rises low high most le (task ∷ tasks) =
    omega (
      arith,
      sum_by-cons (capped low) task tasks,
      sum_by-cons (capped high) task tasks,
      ap (λ w. w * most) (sum_by-cons (λ t. t.weight) task tasks),
      mul-le-mul_left task.weight le,
      capped-rises low high most le tasks,
    )

-- a number above every sum
sum-few : (sum : Tasks) (most : ℕ) → AreInRange sum.tasks → MAX_TOTAL ≤ most → RisesAtMost (tasks_value sum) most
sum-few sum most in_range le share = omega (arith, capped-few (function_value sum.function.points (share + 1)) sum.tasks in_range)

pub seen-few : (sum seen : Tasks) (most : ℕ) → sum ≡ seen → AreInRange sum.tasks → MAX_TOTAL ≤ most → RisesAtMost (tasks_value seen) most
seen-few sum seen most same in_range le = subst (λ (tasks : Tasks). RisesAtMost (tasks_value tasks) most) same (sum-few sum most in_range le)

-- or the function's rise times all weights
sum-rises : (sum : Tasks) (weights rise most : ℕ) → weights ≡ sum_by (λ task. task.weight) sum.tasks → RisesAtMost (function_value sum.function.points) rise
    → weights * rise ≤ most → RisesAtMost (tasks_value sum) most
sum-rises sum weights rise most all rises enough share =
    omega (
      arith,
      capped-rises (function_value sum.function.points share) (function_value sum.function.points (share + 1)) rise (rises share) sum.tasks,
      ap (λ w. w * rise) all,
      enough,
    )

pub seen-rises : (sum seen : Tasks) (weights rise most limit : ℕ) → sum ≡ seen → AreInRange sum.tasks → weights ≡ sum_by (λ task. task.weight) sum.tasks
    → RisesAtMost (function_value sum.function.points) rise → most ≡ min (weights * rise) limit → MAX_TOTAL ≤ limit → RisesAtMost (tasks_value seen) most
seen-rises sum seen weights rise most limit same in_range all rises is high =
    subst (λ (tasks : Tasks). RisesAtMost (tasks_value tasks) most) same
    (elim (cases_lt limit (weights * rise)) [
      | inl over ↦ sum-few sum most in_range (omega arith)
      | inr within ↦ sum-rises sum weights rise most all rises (omega arith)
    ])
