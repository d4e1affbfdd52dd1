use Rattle.std.proofs.Common.{◌≡◌, ℕ, ◌+◌, ◌∙◌, ap, List, Option, arith}
use Rattle.bw_function.specs.BwFunction.{Function}
use Rattle.policy_tree.specs.States.{JobState, transformed, jobs_meaning, user_meaning}
use Rattle.tree_bounds.proofs.floor.UserNodeFloor.steepest.Goals as goal

pub returns : goal.returns
returns c share =
    let value : Option Function → List JobState → ℕ → ℕ = λ configured jobs at. transformed configured (jobs_meaning jobs) at in
    let same : (at : ℕ) → transformed c.function.result.now (jobs_meaning c.siblings.result.nodes.now) at ≡ user_meaning c.args.self.now at =
    λ at. ap (λ (jobs : List JobState). value c.function.result.now jobs at) c.siblings.ensures
    ∙ ap (λ (configured : Option Function). value configured c.args.self.now.jobs at) c.function.ensures.configured in
    omega (arith, same share, same (share + 1), c.steepest_at.ensures share)
