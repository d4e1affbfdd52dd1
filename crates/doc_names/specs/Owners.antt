-- The owner of a task or link, and the first report of a script that is not by the owner.
use Rattle.std.specs.Prelude.{ℕ, suc, ◌==◌, Bool, false, List, [], ◌∷◌, slice_get, Option, Some, None, option_and_then, if◌then◌else◌}
use Rattle.bwe_specs.specs.declared.report.Target.{Target}
use Rattle.bwe_specs.specs.declared.report.Target.TheVariants.{Task, Link}
use Rattle.bwe_specs.specs.declared.report.Report.{Report}

-- the owner of a task or link, by the owners of tasks and those of links
abbrev pub owner_of : List ℕ → List (Option ℕ) → Target → Option ℕ
owner_of task_owners link_owners (Task task) = slice_get task_owners task
owner_of task_owners link_owners (Link link) =
    option_and_then (λ owner. owner) (slice_get link_owners link)

-- the owner, if there is one, is this reporter
abbrev pub is_owner : Option ℕ → ℕ → Bool
is_owner None reporter = false
is_owner (Some owner) reporter = owner == reporter

-- the first of these entries, of which the first stands at this index in the script
unfoldable pub not_owned : List ℕ → List (Option ℕ) → ℕ → List Report → Option ℕ
not_owned task_owners link_owners place [] = None
not_owned task_owners link_owners place (report ∷ reports) =
    if is_owner (owner_of task_owners link_owners report.target) report.reporter
    then not_owned task_owners link_owners (suc place) reports else Some place
