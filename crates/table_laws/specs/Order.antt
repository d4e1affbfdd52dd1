-- The groups of a plan in another order, with their tasks.
use Rattle.std.specs.Prelude.{◌≡◌, ℕ, ◌<◌, List, [], length, map, None, slice_index, slice_index_or}
use Rattle.bwe_specs.specs.Tree.{Job, User, Cluster}
use Rattle.bwe_specs.specs.Reports.{numbers}
use Rattle.bwe_specs.specs.Allocation.{Plan, Table, table_under}
use Rattle.table_laws.specs.Tasks.{JobTask, AreNumbered, tasks_of_cluster}
use Rattle.table_laws.specs.Tables.{line_at}

-- an order of so many groups: which group stands at each place, and the place of each group
pub record IsOrder (count : ℕ) (group_at place_of : ℕ → ℕ) : Type 0 where
  pub within : (place : ℕ) → place < count → group_at place < count
  pub place_within : (group : ℕ) → group < count → place_of group < count
  pub at_place : (group : ℕ) → group < count → group_at (place_of group) ≡ group
  pub of_group : (place : ℕ) → place < count → place_of (group_at place) ≡ place

-- a node whose tasks have other numbers
abbrev pub job_renumbered : (ℕ → ℕ) → Job → Job
job_renumbered renumber job =
    record job {
      tasks = map (λ task. record { number = renumber task.number; weight = task.weight })
          job.tasks;
    }

abbrev pub user_renumbered : (ℕ → ℕ) → User → User
user_renumbered renumber user = record user { jobs = map (job_renumbered renumber) user.jobs }

abbrev pub cluster_renumbered : (ℕ → ℕ) → Cluster → Cluster
cluster_renumbered renumber cluster =
    record cluster { users = map (user_renumbered renumber) cluster.users }

-- the cluster of a group; one without users where there is no such group
abbrev pub cluster_at : Plan → ℕ → Cluster
cluster_at plan group =
    slice_index_or plan.clusters group (record { configured = None; users = [] })

-- the plan with its groups in another order, each with its cluster, whose tasks have other numbers
abbrev pub reordered : (ℕ → ℕ) → (ℕ → ℕ) → Plan → Plan
reordered group_at renumber plan = record plan {
  clusters = map (λ place. cluster_renumbered renumber (cluster_at plan (group_at place)))
      (numbers (length plan.groups));
  groups = map (λ place. slice_index_or plan.groups (group_at place) [])
      (numbers (length plan.groups));
}

-- the limits of a group's tasks, in the order of the tasks, where each task has its limit by its
-- number
abbrev pub limits_at : Plan → List ℕ → ℕ → List ℕ
limits_at plan limits group =
    map (λ (given : JobTask). slice_index limits given.task.number)
    (tasks_of_cluster (cluster_at plan group))

-- each group has the same line and its tasks the same limits, wherever it stands; closings and
-- loads are the same
pub record AreAlike (plan other : Plan) (group_at : ℕ → ℕ) (table reordered : Table) : Type 0 where
  pub lines : (place : ℕ) → place < length plan.groups
      → line_at reordered.groups place ≡ line_at table.groups (group_at place)
  pub limits : (place : ℕ) → place < length plan.groups
      → limits_at other reordered.limits place ≡ limits_at plan table.limits (group_at place)
  pub loads : reordered.loads ≡ table.loads
  pub closings : reordered.closings ≡ table.closings

-- Nobody's place matters: the table of every plan that has the groups in another order, with their
-- tasks, which then may have other numbers and ask for the same, is this one in that order
abbrev pub IsInAnyOrder : Plan → ℕ → (ℕ → ℕ) → List ℕ → Table → Type 0
IsInAnyOrder plan prefix demand capacities table = (group_at place_of renumber other : ℕ → ℕ)
    → IsOrder (length plan.groups) group_at place_of
    → AreNumbered (reordered group_at renumber plan).clusters
    → ((task : ℕ) → other (renumber task) ≡ demand task)
    → AreAlike plan (reordered group_at renumber plan) group_at table
    (table_under (reordered group_at renumber plan) prefix other capacities)
