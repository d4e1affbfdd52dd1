-- The greatest share at which a capped sum is at most an amount.
use Rattle.std.proofs.Common.{◌≡◌, ℕ, ◌+◌, ◌<◌, ◌≤◌, inl, inr, sum_by, sym, ◌∙◌, ap, arith, le_refl, nat_le, le-leb}
use Rattle.std.proofs.Math.Path.{fun_ext}
use Rattle.std.proofs.lemmas.Bool.{cases_lt}
use Rattle.bwe_specs.specs.Bounded.{greatest_upto}
use Rattle.bwe_specs.specs.FunctionValue.{function_value}
use Rattle.bwe_specs.proofs.Bounds.{greatest-found, over_false}
use Rattle.capped_sum.specs.Index.{capped, IsMost}
use Rattle.tree_spec.specs.Tasks.{Tasks, tasks_value}
use Rattle.capped_sum.proofs.Meanings.{capped-grows}

-- the sum is at most the amount just where the amount per weight is at most that
same-test : {A : Type 0} → (f : A → ℕ) (F : ℕ → ℕ) (amount most : ℕ) → ((a b : ℕ) → a ≤ b → F a ≤ F b) → F most ≤ amount → amount < F (most + 1) → (x : A)
    → nat_le (f x) most ≡ nat_le (F (f x)) amount
same-test f F amount most grows fits over x =
    elim (cases_lt most (f x)) [
      | inl above ↦ over_false (f x) most above ∙ sym (over_false (F (f x)) amount (omega (arith, grows (most + 1) (f x) (omega arith), over)))
      | inr within ↦ le-leb (f x) most within ∙ sym (le-leb (F (f x)) amount (omega (arith, grows (f x) most within, fits)))
    ]

pub last-most : (sum seen : Tasks) (amount most top : ℕ) → sum ≡ seen → IsMost sum.tasks amount most
    → greatest_upto top (λ share. nat_le (function_value sum.function.points share) most) ≡ greatest_upto top (λ share. nat_le (tasks_value seen share) amount)
last-most sum seen amount most top same is =
    ap (greatest_upto top)
    (fun_ext (λ (share : ℕ). same-test (function_value sum.function.points) (λ x. sum_by (capped x) sum.tasks) amount most (λ a b le. capped-grows a b le sum.tasks) is.fits is.over share))
    ∙ ap (λ (tasks : Tasks). greatest_upto top (λ share. nat_le (tasks_value tasks share) amount)) same

pub last-all : (sum seen : Tasks) (amount top : ℕ) → sum ≡ seen → ((per_weight : ℕ) → sum_by (capped per_weight) sum.tasks ≤ amount)
    → top ≡ greatest_upto top (λ share. nat_le (tasks_value seen share) amount)
last-all sum seen amount top same all =
    sym (greatest-found top (λ share. nat_le (tasks_value sum share) amount) top (le-leb _ amount (all (function_value sum.function.points 0))) (le_refl top) (le-leb _ amount (all (function_value sum.function.points top)))
    (λ share above within. absurd (omega arith)))
    ∙ ap (λ (tasks : Tasks). greatest_upto top (λ share. nat_le (tasks_value tasks share) amount)) same
