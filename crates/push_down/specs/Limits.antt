-- The limits of a node's tasks, by the node as the tree keeps it.
use Rattle.std.specs.Prelude.{ℕ, List, map, zip, flat_map}
use Rattle.bwe_specs.specs.Tree.{task_value}
use Rattle.bwe_specs.specs.Distribution.{distribution}
use Rattle.tree_spec.specs.Tasks.{Tasks}
use Rattle.policy_tree.specs.States.{JobState, UserState, ClusterState, job_meaning, user_meaning}
use Rattle.push_down.specs.declared.TaskLimit.{TaskLimit}

-- the values of the tasks of a sum
abbrev pub tasks_values : Tasks → List (ℕ → ℕ)
tasks_values sum = map (λ task. task_value sum.function.points task.weight task.demand) sum.tasks

abbrev pub limits_of_job : ℕ → JobState → ℕ → List ℕ
limits_of_job top job amount = distribution top (tasks_values job.sum) amount

abbrev pub limits_of_user : ℕ → UserState → ℕ → List ℕ
limits_of_user top user amount =
    flat_map (λ given. limits_of_job top given.0 given.1)
    (zip user.jobs (distribution top (map job_meaning user.jobs) amount))

abbrev pub limits_of_cluster : ℕ → ClusterState → ℕ → List ℕ
limits_of_cluster top cluster amount =
    flat_map (λ given. limits_of_user top given.0 given.1)
    (zip cluster.users (distribution top (map user_meaning cluster.users) amount))

-- the tasks and the limits of a list
abbrev pub tasks_in : List TaskLimit → List ℕ
tasks_in limits = map (λ entry. entry.task) limits

abbrev pub limits_in : List TaskLimit → List ℕ
limits_in limits = map (λ entry. entry.limit) limits
