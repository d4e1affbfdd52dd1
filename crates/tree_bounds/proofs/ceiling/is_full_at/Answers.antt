use Rattle.std.proofs.Common.{◌≡◌, ap, Option, Some, arith, leb-true}
use Rattle.bw_function.specs.BwFunction.{Function}
use Rattle.policy_tree.specs.States.{transformed}
use Rattle.tree_bounds.proofs.Configured.{transformed-full}
use Rattle.tree_bounds.proofs.ceiling.is_full_at.Goals as goal

pub returns-in-Some : goal.returns-in-Some
returns-in-Some g c told higher below most =
    let meaning = g.P.ShareFunction.meaning c.args._sum.now in
    let here : transformed c.args.function.now (g.P.ShareFunction.meaning c.args._sum.now) c.args.share ≡ transformed (Some c.in-Some.parent) (g.P.ShareFunction.meaning c.args._sum.now) c.args.share =
    ap (λ (t : Option Function). transformed t meaning c.args.share) c.in-Some.is in
    let there : transformed c.args.function.now (g.P.ShareFunction.meaning c.args._sum.now) higher ≡ transformed (Some c.in-Some.parent) (g.P.ShareFunction.meaning c.args._sum.now) higher =
    ap (λ (t : Option Function). transformed t meaning higher) c.in-Some.is in
    let within = leb-true c.args.most c.value.result told in
    omega (arith, here, there, most, transformed-full c.in-Some.parent meaning c.args.share higher c.value.ensures.function c.requires.sum below (omega (arith, most, there, within, c.value.ensures.value)))
