use Rattle.std.proofs.Common.{◌≡◌, ℕ, ◌+◌, ◌∙◌, ap, Option, Some, arith}
use Rattle.bw_function.specs.BwFunction.{Function}
use Rattle.policy_tree.specs.States.{transformed}
use Rattle.policy_tree.proofs.Transforms.{transformed-none}
use Rattle.tree_bounds.proofs.Configured.{transformed-within, transformed-rises}
use Rattle.tree_bounds.proofs.floor.steepest_at.Goals as goal

pub returns-in-None : goal.returns-in-None
returns-in-None g c share =
    let meaning = g.P.ShareFunction.meaning c.args.sum.now in
    let same : (at : ℕ) → transformed c.args.function.now (g.P.ShareFunction.meaning c.args.sum.now) at ≡ g.P.ShareFunction.meaning c.args.sum.now at =
    λ at. ap (λ (t : Option Function). transformed t meaning at) c.in-None.is ∙ transformed-none meaning at in
    omega (arith, same share, same (share + 1), c.steepest.ensures share)

pub returns-in-Some : goal.returns-in-Some
returns-in-Some g c share =
    let meaning = g.P.ShareFunction.meaning c.args.sum.now in
    let same : (at : ℕ) → transformed c.args.function.now (g.P.ShareFunction.meaning c.args.sum.now) at ≡ transformed (Some c.in-Some.parent) (g.P.ShareFunction.meaning c.args.sum.now) at =
    λ at. ap (λ (t : Option Function). transformed t meaning at) c.in-Some.is in
    omega (
      arith,
      same share,
      same (share + 1),
      c.saturating_add.ensures,
      c.requires.bound c.in-Some.parent.top,
      transformed-within c.in-Some.parent meaning (share + 1) c.requires,
      transformed-rises c.in-Some.parent meaning c.steepest-in-Some.result c.steepest-in-Some-2.result c.requires c.steepest-in-Some.ensures.rise c.steepest-in-Some-2.ensures share,
    )
