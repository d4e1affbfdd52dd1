-- The specs that were built of a document have its top and its weights.
use Rattle.std.proofs.Common.{◌≡◌, ℕ, ◌≤◌, List, [], ◌∷◌, map, Option, Some, None, option_map, refl, sym, ap, ◌∙◌}
use Rattle.std.specs.Prelude.{All}
use Rattle.std.proofs.lemmas.List.Elements.{All-nil, All-cons, All-head, All-tail, All-same, All-map}
use Rattle.bw_function.specs.BwFunction.{Function}
use Rattle.tree_spec.specs.declared.task.Task.{Task}
use Rattle.tree_spec.specs.Tasks.{without_demand}
use Rattle.tree_spec.specs.declared.spec.JobSpec.{JobSpec}
use Rattle.tree_spec.specs.declared.spec.UserSpec.{UserSpec}
use Rattle.tree_spec.specs.declared.spec.ClusterSpec.{ClusterSpec}
use Rattle.tree_spec.specs.States.{JobState, UserState, ClusterState}
use Rattle.tree_spec.specs.Asked.{idle_job, idle_user, idle_cluster, HasTop, HasJobTop, HasUserTop, HasClusterTop, HasJobWeights, HasUserWeights, HasClusterWeights}
use Rattle.raw_document.specs.Raw as raw
use Rattle.cluster_parts.specs.TreeParts.{function_part, weights_of, job_part, user_part, cluster_part}
use Rattle.doc_passes.proofs.Readings.{All-anything}
use Rattle.doc_passes.specs.InRange as ranges

-- what holds of each spec where it holds of each that was built of a right item
module _ {A S T : Type 0} (spec_view : T → S) (part : A → S) (Q : A → Type 0) (P : T → Type 0) (holds : (x : T) (item : A) → Q item → spec_view x ≡ part item → P x) where
  pub all_built : (specs : List T) (items : List A) → All Q items → map spec_view specs ≡ map part items → All P specs
  all_built [] [] known e = All-nil P
  all_built [] (item ∷ items) known e = absurd cc
  all_built (x ∷ specs) [] known e = absurd cc
  all_built (x ∷ specs) (item ∷ items) known e =
      let here : spec_view x ≡ part item = cc in
      let later : map spec_view specs ≡ map part items = cc in
      All-cons P x specs (holds x item (All-head Q item items known) here) (all_built specs items (All-tail Q item items known) later)

has_top : (top : ℕ) (configured : Option Function) (function : Option (List (ℕ × ℕ))) → configured ≡ option_map (function_part top) function → HasTop top configured
has_top top None function e = tt
has_top top (Some found) None e = absurd cc
has_top top (Some found) (Some points) e = let is : found ≡ function_part top points = cc in ap (λ function. function.top) is

job_top : (top : ℕ) (spec : JobSpec) (job : raw.Job) → Unit {0} → idle_job spec ≡ job_part top job → HasJobTop top spec
job_top top spec job _ e = record {
  configured = has_top top spec.function job.function (ap (λ (state : JobState). state.configured) e);
  task = ap (λ (state : JobState). state.sum.function.top) e;
}

user_top : (top : ℕ) (spec : UserSpec) (user : raw.User) → Unit {0} → idle_user spec ≡ user_part top user → HasUserTop top spec
user_top top spec user _ e = record {
  configured = has_top top spec.function user.function (ap (λ (state : UserState). state.configured) e);
  jobs = all_built idle_job (job_part top) (λ _. Unit {0}) (HasJobTop top) (job_top top) spec.jobs.items user.jobs (All-anything user.jobs) (ap (λ (state : UserState). state.jobs) e);
}

cluster_top : (top : ℕ) (spec : ClusterSpec) (group : raw.Group) → Unit {0} → idle_cluster spec ≡ cluster_part top group → HasClusterTop top spec
cluster_top top spec group _ e = record {
  configured = has_top top spec.function group.function (ap (λ (state : ClusterState). state.configured) e);
  users = all_built idle_user (user_part top) (λ _. Unit {0}) (HasUserTop top) (user_top top) spec.users.items group.users (All-anything group.users) (ap (λ (state : ClusterState). state.users) e);
}

pub have_top : (top : ℕ) (specs : List ClusterSpec) (groups : List raw.Group) → map idle_cluster specs ≡ map (cluster_part top) groups → All (HasClusterTop top) specs
have_top top specs groups e = all_built idle_cluster (cluster_part top) (λ _. Unit {0}) (HasClusterTop top) (cluster_top top) specs groups (All-anything groups) e

-- ---- weights

task_weight : Task → ℕ
task_weight task = task.weight

weights_back : (weights : List ℕ) → map task_weight (map without_demand weights) ≡ weights
unfolding task_weight
weights_back [] = refl
weights_back (weight ∷ weights) = ap (λ rest. weight ∷ rest) (weights_back weights)

job_weights : (top : ℕ) (spec : JobSpec) (job : raw.Job) → ranges.HasJobWeights job → idle_job spec ≡ job_part top job → HasJobWeights spec
job_weights top spec job known e =
    let same : spec.weights.items ≡ weights_of job = sym (weights_back spec.weights.items) ∙ ap (λ (state : JobState). map task_weight state.sum.tasks) e ∙ weights_back (weights_of job) in
    All-same (λ weight. (1 ≤ weight) × (weight ≤ 1_000)) spec.weights.items (weights_of job) same (All-map (λ weight. (1 ≤ weight) × (weight ≤ 1_000)) (λ (task : raw.Task). task.weight) job.tasks known)

user_weights : (top : ℕ) (spec : UserSpec) (user : raw.User) → ranges.HasUserWeights user → idle_user spec ≡ user_part top user → HasUserWeights spec
user_weights top spec user known e = all_built idle_job (job_part top) ranges.HasJobWeights HasJobWeights (job_weights top) spec.jobs.items user.jobs known (ap (λ (state : UserState). state.jobs) e)

cluster_weights : (top : ℕ) (spec : ClusterSpec) (group : raw.Group) → ranges.HasGroupWeights group → idle_cluster spec ≡ cluster_part top group → HasClusterWeights spec
cluster_weights top spec group known e = all_built idle_user (user_part top) ranges.HasUserWeights HasUserWeights (user_weights top) spec.users.items group.users known (ap (λ (state : ClusterState). state.users) e)

pub have_weights : (top : ℕ) (specs : List ClusterSpec) (groups : List raw.Group) → All ranges.HasGroupWeights groups → map idle_cluster specs ≡ map (cluster_part top) groups → All HasClusterWeights specs
have_weights top specs groups known e = all_built idle_cluster (cluster_part top) ranges.HasGroupWeights HasClusterWeights (cluster_weights top) specs groups known e
