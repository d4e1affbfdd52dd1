-- Refusal 7: the first function that is refused, in the order of the walk.
use Rattle.std.specs.Prelude.{ℕ, suc, List, [], ◌∷◌, Option, Some, None, option_map}
use Rattle.std.specs.Option.{option_or}
use Rattle.bw_function.specs.declared.fault.FunctionFault.{FunctionFault}
use Rattle.bw_function.specs.Faults.{function_fault}
use Rattle.raw_document.specs.declared.key.DocKey.TheVariants as keys
use Rattle.raw_document.specs.declared.doc_path.PathStep.{PathStep}
use Rattle.raw_document.specs.declared.doc_path.PathStep.TheVariants.{Key, Index}
use Rattle.raw_document.specs.Raw.{Job, User, Group}

-- a function that is refused: its path from here on, and why
pub record RefusedFunction : Type 0 where
  pub path : List PathStep
  pub cause : FunctionFault

-- the same, told from one step above
abbrev pub below : PathStep → Option RefusedFunction → Option RefusedFunction
below step refused =
    option_map (λ function. record { path = step ∷ function.path; cause = function.cause }) refused

-- the first in a list, of which the first item stands at this place
unfoldable pub first_refused : {A : Type 0} → (A → Option RefusedFunction) → ℕ → List A
    → Option RefusedFunction
first_refused refused place [] = None
first_refused refused place (item ∷ items) =
    option_or (below (Index place) (refused item)) (first_refused refused (suc place) items)

-- ---- the walk

abbrev pub refused_here : ℕ → List (ℕ × ℕ) → Option RefusedFunction
refused_here top points =
    option_map (λ cause. record { path = []; cause = cause }) (function_fault points top)

abbrev pub refused_configured : ℕ → Option (List (ℕ × ℕ)) → Option RefusedFunction
refused_configured top None = None
refused_configured top (Some points) = below (Key keys.Function) (refused_here top points)

unfoldable pub refused_in_job : ℕ → Job → Option RefusedFunction
refused_in_job top job =
    option_or (refused_configured top job.function)
    (below (Key keys.Task) (refused_here top job.task))

unfoldable pub refused_in_user : ℕ → User → Option RefusedFunction
refused_in_user top user =
    option_or (refused_configured top user.function)
    (below (Key keys.Jobs) (first_refused (refused_in_job top) 0 user.jobs))

unfoldable pub refused_in_group : ℕ → Group → Option RefusedFunction
refused_in_group top group =
    option_or (refused_configured top group.function)
    (below (Key keys.Users) (first_refused (refused_in_user top) 0 group.users))

abbrev pub refused_in_groups : ℕ → List Group → Option RefusedFunction
refused_in_groups top groups =
    below (Key keys.Groups) (first_refused (refused_in_group top) 0 groups)
