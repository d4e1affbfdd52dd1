use Rattle.std.proofs.Common.{sym, subst, ◌≡◌, ◌<◌, ap, ◌∙◌, length, set, arith, List}
use Rattle.std.proofs.lemmas.List.{get_or_read, set-get_or}
use Rattle.policy_tree.specs.States.{UserState, ClusterState, IsClusterState, job_tasks}
use Rattle.policy_tree.specs.Changes.{job_at, user_at, user_with}
use Rattle.policy_tree.proofs.Updates.{cluster_with-is}
use Rattle.policy_tree.proofs.cluster.ClusterNode.set.Goals as goal
use Rattle.policy_tree.proofs.cluster.ClusterNode.set.Goals.{After-index_mut}

within : (c : After-index_mut) → c.args.user < length c.self.inside.users.items
within c = let e = ap (λ (cluster : ClusterState). length cluster.users) c.self.view_is in omega arith

read : (c : After-index_mut) → c.index_mut.result.now ≡ user_at c.self.inside.users.items c.args.user
read c = get_or_read c.self.inside.users.items c.args.user c.index_mut.result.now (within c) c.index_mut.ensures.value _

pub invariant_of-self : goal.invariant_of-self
invariant_of-self c =
    let b = (goal.at.invariant_of-self c).After-index_mut in
    let users = c.self.inside.users.items in
    let same : set users c.args.user c.set.new.self ≡ users = ap (set users c.args.user) (c.in_err-set.ensures.refused ∙ read b) ∙ set-get_or users c.args.user _ in
    subst (λ (users : List UserState). IsClusterState (record { configured = c.self.inside.function; users = users })) (sym same) c.self.invariant

pub invariant_of-self-2 : goal.invariant_of-self-2
invariant_of-self-2 c =
    let b = (goal.at.invariant_of-self-2 c).After-index_mut in
    let users = c.self.inside.users.items in
    let changed : c.set.new.self ≡ user_with (user_at users c.args.user) c.args.job c.args.task c.args.demand =
    c.in_ok-set.ensures.ok ∙ ap (λ (user : UserState). user_with user c.args.job c.args.task c.args.demand) (read b) in
    let job : c.args.job < length (user_at users c.args.user).jobs = subst (λ (cluster : ClusterState). c.args.job < length (user_at cluster.users c.args.user).jobs) (sym c.self.view_is) c.requires.job in
    let task : c.args.task < job_tasks (job_at (user_at users c.args.user).jobs c.args.job) = subst (λ (cluster : ClusterState). c.args.task < job_tasks (job_at (user_at cluster.users c.args.user).jobs c.args.job)) (sym c.self.view_is) c.requires.task in
    subst (λ (user : UserState). IsClusterState (record { configured = c.self.inside.function; users = set users c.args.user user })) (sym changed)
    (cluster_with-is (record { configured = c.self.inside.function; users = users }) c.args.user c.args.job c.args.task c.args.demand c.self.invariant (within b) job task c.requires.demand)
