use Rattle.std.proofs.Common.{◌≡◌, ◌<◌, ◌∙◌, sym, ap, ap₂, subst, length, set, arith, List}
use Rattle.std.proofs.lemmas.List.{get_or_read, set-get_or}
use Rattle.std.proofs.lemmas.Result.{MatchResult-from_err}
use Rattle.policy_tree.specs.States.{ClusterState, job_tasks}
use Rattle.policy_tree.specs.Changes.{job_at, user_at, cluster_at, cluster_with}
use Rattle.policy_tree.specs.Trees.{Tree, tree_of, asking}
use Rattle.policy_tree.specs.Kept.{IsKeptTree}
use Rattle.policy_tree.proofs.Homes.{IsAt, demands-with}
use Rattle.policy_tree.proofs.TreeFacts.{home-known, home-is, kept-with, numbered-with}
use Rattle.policy_tree.proofs.tree.PolicyTree.set_demand.Goals as goal
use Rattle.policy_tree.proofs.tree.PolicyTree.set_demand.Goals.{After-index-home, After-index_mut}

found : (c : After-index-home) → IsAt c.self.inside.clusters.items c.args.task c.index-home.result.now
found c = home-is _ _ _ _ c.self.invariant c.args.task c.index-home.result.now (home-known _ _ _ _ _ c.self.invariant c.self.view_is c.args.task c.requires.task) c.index-home.ensures

read : (c : After-index_mut) → c.index-home.result.now.cluster < length c.self.inside.clusters.items → c.index_mut.result.now ≡ cluster_at c.self.inside.clusters.items c.index-home.result.now.cluster
read c within = get_or_read c.self.inside.clusters.items c.index-home.result.now.cluster c.index_mut.result.now within c.index_mut.ensures.value _

pub index-home-requires : goal.index-home-requires
index-home-requires c = let lt = home-known _ _ _ _ _ c.self.invariant c.self.view_is c.args.task c.requires.task in omega (arith, c.self.inside.homes.ok.0)

pub index_mut-requires : goal.index_mut-requires
index_mut-requires c = let at = found (goal.at.index_mut-requires c).After-index-home in omega (arith, c.self.inside.clusters.ok.0, at.cluster)

pub set-requires-clause-user : goal.set-requires-clause-user
set-requires-clause-user c =
    let at = found (goal.at.set-requires-clause-user c).After-index-home in
    subst (λ (cluster : ClusterState). c.index-home.result.now.user < length cluster.users) (sym (read (goal.at.set-requires-clause-user c).After-index_mut at.cluster)) at.user

pub set-requires-clause-job : goal.set-requires-clause-job
set-requires-clause-job c =
    let at = found (goal.at.set-requires-clause-job c).After-index-home in
    subst (λ (cluster : ClusterState). c.index-home.result.now.job < length (user_at cluster.users c.index-home.result.now.user).jobs) (sym (read (goal.at.set-requires-clause-job c).After-index_mut at.cluster)) at.job

pub set-requires-clause-task : goal.set-requires-clause-task
set-requires-clause-task c =
    let at = found (goal.at.set-requires-clause-task c).After-index-home in
    subst (λ (cluster : ClusterState). c.index-home.result.now.task < job_tasks (job_at (user_at cluster.users c.index-home.result.now.user).jobs c.index-home.result.now.job)) (sym (read (goal.at.set-requires-clause-task c).After-index_mut at.cluster)) at.task

pub invariant_of-self : goal.invariant_of-self
invariant_of-self c =
    let at = found (goal.at.invariant_of-self c).After-index-home in
    let clusters = c.self.inside.clusters.items in
    let place = c.index-home.result.now.cluster in
    let same : set clusters place c.set.new.self ≡ clusters = ap (set clusters place) (c.in_err-set.ensures.refused ∙ read (goal.at.invariant_of-self c).After-index_mut at.cluster) ∙ set-get_or clusters place _ in
    subst (λ (states : List ClusterState). IsKeptTree c.self.inside.top states c.self.inside.homes.items c.self.inside.firsts.items) (sym same) c.self.invariant

pub returns-in_err-set-clause-refused : goal.returns-in_err-set-clause-refused
returns-in_err-set-clause-refused c =
    let at = found (goal.at.returns-in_err-set-clause-refused c).After-index-home in
    let clusters = c.self.inside.clusters.items in
    let place = c.index-home.result.now.cluster in
    let same : set clusters place c.set.new.self ≡ clusters = ap (set clusters place) (c.in_err-set.ensures.refused ∙ read (goal.at.returns-in_err-set-clause-refused c).After-index_mut at.cluster) ∙ set-get_or clusters place _ in
    MatchResult-from_err c.from_residual.result _ _ c.from_residual.ensures.0 (λ error. ap (tree_of c.self.inside.top) same ∙ c.self.view_is)

pub invariant_of-self-2 : goal.invariant_of-self-2
invariant_of-self-2 c =
    let at = found (goal.at.invariant_of-self-2 c).After-index-home in
    let home = c.index-home.result.now in
    let changed : c.set.new.self ≡ cluster_with (cluster_at c.self.inside.clusters.items home.cluster) home.user home.job home.task c.args.demand =
    c.in_ok-set.ensures.ok ∙ ap (λ (cluster : ClusterState). cluster_with cluster home.user home.job home.task c.args.demand) (read (goal.at.invariant_of-self-2 c).After-index_mut at.cluster) in
    subst (λ (cluster : ClusterState). IsKeptTree c.self.inside.top (set c.self.inside.clusters.items home.cluster cluster) c.self.inside.homes.items c.self.inside.firsts.items) (sym changed)
    (kept-with c.self.inside.top c.self.inside.clusters.items c.self.inside.homes.items c.self.inside.firsts.items c.args.task home c.args.demand c.self.invariant at c.requires.demand)

pub returns-clause-ok : goal.returns-clause-ok
returns-clause-ok c =
    let at = found (goal.at.returns-clause-ok c).After-index-home in
    let home = c.index-home.result.now in
    let clusters = c.self.inside.clusters.items in
    let changed : c.set.new.self ≡ cluster_with (cluster_at clusters home.cluster) home.user home.job home.task c.args.demand =
    c.in_ok-set.ensures.ok ∙ ap (λ (cluster : ClusterState). cluster_with cluster home.user home.job home.task c.args.demand) (read (goal.at.returns-clause-ok c).After-index_mut at.cluster) in
    ap (λ (cluster : ClusterState). tree_of c.self.inside.top (set clusters home.cluster cluster)) changed
    ∙ ap₂ {C = Tree} (λ numbered demands. record { top = c.self.inside.top; clusters = numbered; demands = demands })
    (numbered-with clusters home.cluster home.user home.job home.task c.args.demand)
    (demands-with clusters c.args.task home c.args.demand at)
    ∙ ap (λ (tree : Tree). asking tree c.args.task c.args.demand) c.self.view_is
