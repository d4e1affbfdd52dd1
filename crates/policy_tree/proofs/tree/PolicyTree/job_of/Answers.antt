use Rattle.std.proofs.Common.{◌≡◌, ◌<◌, ◌∙◌, sym, ap, subst, length, arith, List}
use Rattle.std.proofs.lemmas.List.{get_or_read}
use Rattle.tree_spec.specs.Tasks.{task_at}
use Rattle.policy_tree.specs.States.{JobState, UserState, ClusterState, job_tasks}
use Rattle.policy_tree.specs.Changes.{job_at, user_at, cluster_at}
use Rattle.policy_tree.specs.TaskValues.{value_at, task_value_in}
use Rattle.policy_tree.specs.Trees.{Tree, demand_in}
use Rattle.policy_tree.proofs.Homes.{IsAt, demand-at}
use Rattle.policy_tree.proofs.TaskValues.{value-at}
use Rattle.policy_tree.proofs.TreeFacts.{home-known, home-is}
use Rattle.policy_tree.proofs.tree.PolicyTree.job_of.Goals as goal
use Rattle.policy_tree.proofs.tree.PolicyTree.job_of.Goals.{After-index-home, After-users, After-jobs}

pub index-home-requires : goal.index-home-requires
index-home-requires c = let lt = home-known _ _ _ _ _ c.self.invariant c.self.view_is c.args.task c.requires in omega (arith, c.self.inside.homes.ok.0)

found : (c : After-index-home) → IsAt c.self.inside.clusters.items c.args.task c.index-home.result.now
found c = home-is _ _ _ _ c.self.invariant c.args.task c.index-home.result.now (home-known _ _ _ _ _ c.self.invariant c.self.view_is c.args.task c.requires) c.index-home.ensures

pub index-cluster-requires : goal.index-cluster-requires
index-cluster-requires c = let at = found (goal.at.index-cluster-requires c).After-index-home in omega (arith, c.self.inside.clusters.ok.0, at.cluster)

same_users : (c : After-users) → IsAt c.self.inside.clusters.items c.args.task c.index-home.result.now
    → c.users.result.now ≡ (cluster_at c.self.inside.clusters.items c.index-home.result.now.cluster).users
same_users c at =
    c.users.ensures.users
    ∙ ap (λ (cluster : ClusterState). cluster.users) (get_or_read c.self.inside.clusters.items c.index-home.result.now.cluster c.index-cluster.result.now at.cluster c.index-cluster.ensures _)

pub bounds-users-home : goal.bounds-users-home
bounds-users-home c =
    let b = goal.at.bounds-users-home c in
    let at = found b.After-index-home in
    subst (λ (users : List UserState). c.index-home.result.now.user < length users) (sym (same_users b.After-users at)) at.user

same_jobs : (c : After-jobs) → IsAt c.self.inside.clusters.items c.args.task c.index-home.result.now
    → c.users.result.now ≡ (cluster_at c.self.inside.clusters.items c.index-home.result.now.cluster).users
    → c.jobs.result.now ≡ (user_at (cluster_at c.self.inside.clusters.items c.index-home.result.now.cluster).users c.index-home.result.now.user).jobs
same_jobs c at users =
    let home = c.index-home.result.now in
    let within : home.user < length c.users.result.now = subst (λ (users : List UserState). home.user < length users) (sym users) at.user in
    c.jobs.ensures.jobs
    ∙ ap (λ (user : UserState). user.jobs) (get_or_read c.users.result.now home.user c.index-users-home.result within c.index-users-home.is _)
    ∙ ap (λ (users : List UserState). (user_at users home.user).jobs) users

pub bounds-jobs-home : goal.bounds-jobs-home
bounds-jobs-home c =
    let b = goal.at.bounds-jobs-home c in
    let at = found b.After-index-home in
    subst (λ (jobs : List JobState). c.index-home.result.now.job < length jobs) (sym (same_jobs b.After-jobs at (same_users b.After-users at))) at.job

pub returns : goal.returns
returns c =
    let b = goal.at.returns c in
    let home = c.index-home.result.now in
    let clusters = c.self.inside.clusters.items in
    let at = found b.After-index-home in
    let jobs = same_jobs b.After-jobs at (same_users b.After-users at) in
    let within : home.job < length c.jobs.result.now = subst (λ (jobs : List JobState). home.job < length jobs) (sym jobs) at.job in
    let read : c.index-jobs-home.result ≡ job_at (user_at (cluster_at clusters home.cluster).users home.user).jobs home.job =
    get_or_read c.jobs.result.now home.job c.index-jobs-home.result within c.index-jobs-home.is _ ∙ ap (λ (jobs : List JobState). job_at jobs home.job) jobs in
    record {
      within = subst (λ (job : JobState). home.task < job_tasks job) (sym read) at.task;
      demand = ap (λ (job : JobState). (task_at job.sum.tasks home.task).demand) read ∙ sym (demand-at clusters c.args.task home at) ∙ ap (λ (tree : Tree). demand_in tree c.args.task) c.self.view_is;
      value = λ share.
          ap (λ (job : JobState). value_at job home.task share) read
          ∙ sym (value-at c.self.inside.top clusters c.args.task share home at)
          ∙ ap (λ (tree : Tree). task_value_in tree c.args.task share) c.self.view_is;
    }
