use Rattle.std.proofs.Common.{sym, subst, ◌≡◌, ◌<◌, ap, ◌∙◌, length, set, arith, List}
use Rattle.std.proofs.lemmas.List.{get_or_read, set-get_or}
use Rattle.policy_tree.specs.States.{JobState, UserState, IsUserState, job_tasks}
use Rattle.policy_tree.specs.Changes.{job_at, job_with}
use Rattle.policy_tree.proofs.Updates.{user_with-is}
use Rattle.policy_tree.proofs.user.UserNode.set.Goals as goal
use Rattle.policy_tree.proofs.user.UserNode.set.Goals.{After-index_mut}

within : (c : After-index_mut) → c.args.job < length c.self.inside.jobs.items
within c = let e = ap (λ (user : UserState). length user.jobs) c.self.view_is in omega arith

read : (c : After-index_mut) → c.index_mut.result.now ≡ job_at c.self.inside.jobs.items c.args.job
read c = get_or_read c.self.inside.jobs.items c.args.job c.index_mut.result.now (within c) c.index_mut.ensures.value _

pub invariant_of-self : goal.invariant_of-self
invariant_of-self c =
    let b = (goal.at.invariant_of-self c).After-index_mut in
    let jobs = c.self.inside.jobs.items in
    let same : set jobs c.args.job c.set.new.self ≡ jobs = ap (set jobs c.args.job) (c.in_err-set.ensures.refused ∙ read b) ∙ set-get_or jobs c.args.job _ in
    subst (λ (jobs : List JobState). IsUserState (record { configured = c.self.inside.function; jobs = jobs })) (sym same) c.self.invariant

pub invariant_of-self-2 : goal.invariant_of-self-2
invariant_of-self-2 c =
    let b = (goal.at.invariant_of-self-2 c).After-index_mut in
    let changed : c.set.new.self ≡ job_with (job_at c.self.inside.jobs.items c.args.job) c.args.task c.args.demand = c.in_ok-set.ensures.ok ∙ ap (λ (job : JobState). job_with job c.args.task c.args.demand) (read b) in
    let lt : c.args.task < job_tasks (job_at c.self.inside.jobs.items c.args.job) = subst (λ (user : UserState). c.args.task < job_tasks (job_at user.jobs c.args.job)) (sym c.self.view_is) c.requires.task in
    subst (λ (job : JobState). IsUserState (record { configured = c.self.inside.function; jobs = set c.self.inside.jobs.items c.args.job job })) (sym changed)
    (user_with-is (record { configured = c.self.inside.function; jobs = c.self.inside.jobs.items }) c.args.job c.args.task c.args.demand c.self.invariant (within b) lt c.requires.demand)
