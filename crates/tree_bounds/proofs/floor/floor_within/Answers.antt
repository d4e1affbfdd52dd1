use Rattle.std.proofs.Common.{◌≡◌, ◌∙◌, ap, Option, Some, arith}
use Rattle.bw_function.specs.BwFunction.{Function}
use Rattle.policy_tree.specs.States.{transformed}
use Rattle.policy_tree.proofs.Transforms.{transformed-none}
use Rattle.tree_bounds.proofs.Configured.{transformed-within}
use Rattle.tree_bounds.proofs.floor.floor_within.Goals as goal

pub returns-in-None : goal.returns-in-None
returns-in-None g c other most =
    let meaning = g.P.ShareFunction.meaning c.args.sum.now in
    let same : transformed c.args.function.now (g.P.ShareFunction.meaning c.args.sum.now) c.args.share ≡ g.P.ShareFunction.meaning c.args.sum.now c.args.share =
    ap (λ (t : Option Function). transformed t meaning c.args.share) c.in-None.is ∙ transformed-none meaning c.args.share in
    omega (arith, same, c.floor.ensures)

pub returns-in-Some : goal.returns-in-Some
returns-in-Some g c other most =
    let meaning = g.P.ShareFunction.meaning c.args.sum.now in
    let here : transformed c.args.function.now (g.P.ShareFunction.meaning c.args.sum.now) c.args.share ≡ transformed (Some c.in-Some.parent) (g.P.ShareFunction.meaning c.args.sum.now) c.args.share =
    ap (λ (t : Option Function). transformed t meaning c.args.share) c.in-Some.is in
    let there : transformed c.args.function.now (g.P.ShareFunction.meaning c.args.sum.now) other ≡ transformed (Some c.in-Some.parent) (g.P.ShareFunction.meaning c.args.sum.now) other =
    ap (λ (t : Option Function). transformed t meaning other) c.in-Some.is in
    omega (arith, here, c.floor_by_parent.ensures (omega (arith, most, there, transformed-within c.in-Some.parent meaning other c.requires)))
