-- The functions of an accepted document are right, and it has few tasks.
use Rattle.std.proofs.Common.{◌≡◌, ◌≤◌, ◌+◌, ℕ, suc, Bool, true, false, cond, List, [], ◌∷◌, length, map, nat_lt, Option, Some, None, refl}
use Rattle.std.specs.Prelude.{option_map, position}
use Rattle.std.proofs.lemmas.Bool.{ltb-false}
use Rattle.bw_function.specs.BwFunction.{points_of}
use Rattle.bw_function.specs.Faults.{function_fault}
use Rattle.bw_function.specs.declared.fault.FunctionFault.{FunctionFault}
use Rattle.bw_function.proofs.Faults.{function_fault-none}
use Rattle.bwe_specs.proofs.Lists.{neither}
use Rattle.bwe_specs.specs.FunctionValue.{IsFunction}
use Rattle.bwe_specs.specs.Tree.{Cluster}
use Rattle.bwe_specs.specs.TreeFunctions.{AreClusters, AreJobs, AreUsers, IsConfigured}
use Rattle.tree_spec.specs.States.{cluster_tasks, job_tasks, user_tasks}
use Rattle.tree_spec.specs.Numbering.{numbered, numbered_cluster, numbered_clusters, numbered_jobs, numbered_users, points_by}
use Rattle.tree_spec.specs.Trees.{task_numbers}
use Rattle.tree_spec.specs.Walk.{fault_by, is_childless, tree_fault, walk}
use Rattle.tree_spec.specs.declared.fault.TreeFault.{TreeFault}
use Rattle.tree_spec.specs.declared.fault.TreeFault.TheVariants.{TooManyTasks}
use Rattle.raw_document.specs.declared.key.DocKey.TheVariants as keys
use Rattle.raw_document.specs.declared.doc_path.PathStep.{PathStep}
use Rattle.raw_document.specs.declared.doc_path.PathStep.TheVariants.{Index, Key}
use Rattle.raw_document.specs.Raw.{Group, Job, User}
use Rattle.cluster_parts.specs.Functions.{RefusedFunction, below, first_refused, refused_configured, refused_here, refused_in_group, refused_in_groups, refused_in_job, refused_in_user}
use Rattle.cluster_parts.specs.TreeParts.{cluster_part, function_part, job_part, user_part}

below_none : (step : PathStep) (refused : Option RefusedFunction) → below step refused ≡ None → refused ≡ None
below_none step None e = refl
below_none step (Some function) e = absurd cc

here_none : (top : ℕ) (points : List (ℕ × ℕ)) → refused_here top points ≡ None → IsFunction (points_of points) top
here_none top points e = (function_fault-none points top (go (function_fault points top) e)).0 where
  named : FunctionFault → RefusedFunction
  named cause = record { path = []; cause = cause }

  go : (fault : Option FunctionFault) → option_map named fault ≡ None → fault ≡ None
  go None e = refl
  go (Some cause) e = absurd cc

configured_none : (top : ℕ) (points : Option (List (ℕ × ℕ))) → refused_configured top points ≡ None → IsConfigured (points_by (option_map (function_part top) points)) top
configured_none top None e = tt
configured_none top (Some points) e = here_none top points (below_none (Key keys.Function) (refused_here top points) e)

jobs_right : (top first place : ℕ) (jobs : List Job) → first_refused (refused_in_job top) place jobs ≡ None → AreJobs top (numbered_jobs first (map (job_part top) jobs))
unfolding first_refused refused_in_job numbered
jobs_right top first place [] e = tt
jobs_right top first place (job ∷ jobs) e =
    let parts = neither (below (Index place) (refused_in_job top job)) (first_refused (refused_in_job top) (suc place) jobs) e in
    let here = neither (refused_configured top job.function) (below (Key keys.Task) (refused_here top job.task)) (below_none (Index place) (refused_in_job top job) parts.0) in
    ((configured_none top job.function here.0, here_none top job.task (below_none (Key keys.Task) (refused_here top job.task) here.1)), jobs_right top (first + job_tasks (job_part top job)) (suc place) jobs parts.1)

users_right : (top first place : ℕ) (users : List User) → first_refused (refused_in_user top) place users ≡ None → AreUsers top (numbered_users first (map (user_part top) users))
unfolding first_refused refused_in_user numbered
users_right top first place [] e = tt
users_right top first place (user ∷ users) e =
    let parts = neither (below (Index place) (refused_in_user top user)) (first_refused (refused_in_user top) (suc place) users) e in
    let here = neither (refused_configured top user.function) (below (Key keys.Jobs) (first_refused (refused_in_job top) 0 user.jobs)) (below_none (Index place) (refused_in_user top user) parts.0) in
    ((configured_none top user.function here.0, jobs_right top first 0 user.jobs (below_none (Key keys.Jobs) (first_refused (refused_in_job top) 0 user.jobs) here.1)), users_right top (first + user_tasks (user_part top user)) (suc place) users parts.1)

groups_right : (top first place : ℕ) (groups : List Group) → first_refused (refused_in_group top) place groups ≡ None → AreClusters top (numbered cluster_tasks numbered_cluster first (map (cluster_part top) groups))
unfolding first_refused refused_in_group numbered
groups_right top first place [] e = tt
groups_right top first place (group ∷ groups) e =
    let parts = neither (below (Index place) (refused_in_group top group)) (first_refused (refused_in_group top) (suc place) groups) e in
    let here = neither (refused_configured top group.function) (below (Key keys.Users) (first_refused (refused_in_user top) 0 group.users)) (below_none (Index place) (refused_in_group top group) parts.0) in
    ((configured_none top group.function here.0, users_right top first 0 group.users (below_none (Key keys.Users) (first_refused (refused_in_user top) 0 group.users) here.1)), groups_right top (first + cluster_tasks (cluster_part top group)) (suc place) groups parts.1)

-- functions that are not refused are right
pub clusters_right : (top : ℕ) (groups : List Group) → refused_in_groups top groups ≡ None → AreClusters top (numbered_clusters (map (cluster_part top) groups))
clusters_right top groups e = groups_right top 0 0 groups (below_none (Key keys.Groups) (first_refused (refused_in_group top) 0 groups) e)

-- a tree that is not refused has few tasks
pub few_tasks : (clusters : List Cluster) → tree_fault clusters ≡ None → length (task_numbers clusters) ≤ 1_048_576
few_tasks clusters e = go (position is_childless (walk clusters)) e where
  go : (node : Option ℕ) → fault_by node (length (task_numbers clusters)) ≡ None → length (task_numbers clusters) ≤ 1_048_576
  go (Some node) e = absurd cc
  go None e = test (nat_lt 1_048_576 (length (task_numbers clusters))) refl e where
    test : (b : Bool) → nat_lt 1_048_576 (length (task_numbers clusters)) ≡ b → ◌≡◌ {A = Option TreeFault} (cond {A = Option TreeFault} b (Some (TooManyTasks (length (task_numbers clusters)))) None) None → length (task_numbers clusters) ≤ 1_048_576
    test true is e = absurd cc
    test false is e = ltb-false 1_048_576 (length (task_numbers clusters)) is
