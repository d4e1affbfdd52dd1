-- How many tasks a document has, and how many clusters, users and jobs.
use Rattle.std.specs.Prelude.{ℕ, ◌+◌, List, length}
use Rattle.raw_document.specs.Raw.{Job, User, Group}
use Rattle.doc_passes.specs.Limits.{sum_of}

abbrev pub job_tasks : Job → ℕ
job_tasks job = length job.tasks

abbrev pub user_tasks : User → ℕ
user_tasks user = sum_of job_tasks user.jobs

abbrev pub group_tasks : Group → ℕ
group_tasks group = sum_of user_tasks group.users

abbrev pub task_count : List Group → ℕ
task_count groups = sum_of group_tasks groups

-- a user and its jobs
abbrev pub user_nodes : User → ℕ
user_nodes user = 1 + length user.jobs

-- a group's cluster, and its users with their jobs
abbrev pub group_nodes : Group → ℕ
group_nodes group = 1 + sum_of user_nodes group.users

abbrev pub node_count : List Group → ℕ
node_count groups = sum_of group_nodes groups
