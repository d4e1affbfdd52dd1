-- Counts above their limits, in the order of the list and not of the walk. The limits that the
-- version decides are those of `DocumentLimits`; that of points stands here as a number, so that a
-- constant of the code cannot move it.
use Rattle.std.specs.Prelude.{ℕ, ◌+◌, List, [], ◌∷◌, length, Option, Some, None, nat_lt, if◌then◌else◌}
use Rattle.std.specs.Option.{option_or}
use Rattle.bwe_specs.specs.declared.document_limits.DocumentLimits.{DocumentLimits}
use Rattle.bwe_specs.specs.DocumentLimits.{limits_of}
use Rattle.doc_passes.specs.declared.limit.What.{What}
use Rattle.doc_passes.specs.declared.limit.What.TheVariants as counts
use Rattle.doc_passes.specs.declared.limit.Overrun.{Overrun}
use Rattle.raw_document.specs.Raw.{Path, Job, User, Group, Raw}

-- the first that there is
unfoldable pub first_some : {A B : Type 0} → (A → Option B) → List A → Option B
first_some f [] = None
first_some f (item ∷ items) = option_or (f item) (first_some f items)

-- the sum over a list
unfoldable pub sum_of : {A : Type 0} → (A → ℕ) → List A → ℕ
sum_of f [] = 0
sum_of f (item ∷ items) = f item + sum_of f items

-- a count that is above its limit
abbrev pub overrun_of : What → ℕ → ℕ → Option Overrun
overrun_of what limit count =
    if nat_lt limit count then Some (record { what = what; count = count }) else None

-- ---- the first function of more than 256 points, in the order of the walk

abbrev pub points_overrun : List (ℕ × ℕ) → Option Overrun
points_overrun points = overrun_of counts.Points 256 (length points)

abbrev pub configured_overrun : Option (List (ℕ × ℕ)) → Option Overrun
configured_overrun None = None
configured_overrun (Some points) = points_overrun points

unfoldable pub job_overrun : Job → Option Overrun
job_overrun job = option_or (configured_overrun job.function) (points_overrun job.task)

unfoldable pub user_overrun : User → Option Overrun
user_overrun user = option_or (configured_overrun user.function) (first_some job_overrun user.jobs)

unfoldable pub group_overrun : Group → Option Overrun
group_overrun group =
    option_or (configured_overrun group.function) (first_some user_overrun group.users)

-- ---- hops: all entries of all lists of links of paths

abbrev pub path_group_hops : List Path → ℕ
path_group_hops path_group = sum_of (λ path. length path.links) path_group

abbrev pub group_hops : Group → ℕ
group_hops group = sum_of path_group_hops group.path_groups

abbrev pub hops : List Group → ℕ
hops groups = sum_of group_hops groups

-- ---- the first count above its limit

abbrev pub lists_overrun : DocumentLimits → Raw → Option Overrun
lists_overrun limits raw =
    option_or (overrun_of counts.Reporters limits.reporters (length raw.reporters))
    (option_or (overrun_of counts.Script limits.reports (length raw.script))
    (overrun_of counts.Closings limits.closings (length raw.closings)))

unfoldable pub overrun_within : DocumentLimits → Raw → Option Overrun
overrun_within limits raw =
    option_or (overrun_of counts.Groups limits.groups (length raw.groups))
    (option_or (first_some group_overrun raw.groups)
    (option_or (overrun_of counts.Hops limits.hops (hops raw.groups))
    (lists_overrun limits raw)))

-- the limits are those of the document's version, also of one that is out of its range
unfoldable pub overrun : Raw → Option Overrun
overrun raw = overrun_within (limits_of raw.version) raw
