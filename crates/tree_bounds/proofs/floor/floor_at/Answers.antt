use Rattle.std.proofs.Common.{◌≡◌, ◌∙◌, ap, Option, Some, arith}
use Rattle.bw_function.specs.BwFunction.{Function}
use Rattle.policy_tree.specs.States.{transformed}
use Rattle.policy_tree.proofs.Transforms.{transformed-none}
use Rattle.tree_bounds.proofs.floor.floor_at.Goals as goal

pub returns-in-None : goal.returns-in-None
returns-in-None g c =
    let meaning = g.P.ShareFunction.meaning c.args.sum.now in
    let same : transformed c.args.function.now (g.P.ShareFunction.meaning c.args.sum.now) c.args.share ≡ g.P.ShareFunction.meaning c.args.sum.now c.args.share =
    ap (λ (t : Option Function). transformed t meaning c.args.share) c.in-None.is ∙ transformed-none meaning c.args.share in
    omega (arith, same, c.floor.ensures)

pub returns-in-Some : goal.returns-in-Some
returns-in-Some g c =
    let meaning = g.P.ShareFunction.meaning c.args.sum.now in
    let same : transformed c.args.function.now (g.P.ShareFunction.meaning c.args.sum.now) c.args.share ≡ transformed (Some c.in-Some.parent) (g.P.ShareFunction.meaning c.args.sum.now) c.args.share =
    ap (λ (t : Option Function). transformed t meaning c.args.share) c.in-Some.is in
    let top : meaning c.top.result ≡ meaning c.in-Some.parent.top = ap meaning c.top.ensures.top in
    omega (arith, same, c.floor_by_parent.ensures (omega (arith, top, c.floor-in-Some.ensures)))
