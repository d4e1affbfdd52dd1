use Rattle.std.proofs.Common.{ℕ, nat_le, Option, ◌∙◌, ap, List}
use Rattle.bwe_specs.specs.Bounded.{greatest_upto}
use Rattle.bw_function.specs.BwFunction.{Function}
use Rattle.policy_tree.specs.States.{UserState, ClusterState, transformed, users_meaning}
use Rattle.policy_tree.proofs.Inverses.{if-some-same}
use Rattle.policy_tree.proofs.cluster.ClusterNodeShareFunction.last_share_within.Goals as goal

pub returns-clause-last : goal.returns-clause-last
returns-clause-last c =
    let last : Option Function → List UserState → ℕ = λ configured users. greatest_upto c.args.top (λ share. nat_le (transformed configured (users_meaning users) share) c.args.amount) in
    if-some-same c.last_share_at.result _ _
    (ap (last c.self.inside.function) c.siblings.ensures
    ∙ ap (λ (configured : Option Function). last configured c.args.self.now.users) (ap (λ (cluster : ClusterState). cluster.configured) c.self.view_is))
    c.last_share_at.ensures.last
