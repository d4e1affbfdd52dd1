use Rattle.std.proofs.Common.{◌∙◌, ap, sym, min}
use Rattle.bwe_specs.specs.Tree.{inner_share}
use Rattle.policy_tree.proofs.Transforms.{inner_share-min_top, transformed-some}
use Rattle.policy_tree.proofs.value.look_by_parent.Goals as goal

pub returns-clause-value : goal.returns-clause-value
returns-clause-value g c =
    let parent = c.args.parent.now in
    let meaning = g.P.ShareFunction.meaning c.args.sum.now in
    c.look_by.ensures.value
    ∙ ap meaning (ap (inner_share parent.top parent.points meaning) (c.min-within.ensures ∙ ap (min c.args.share) c.top.ensures.top)
    ∙ inner_share-min_top parent c.top.ensures.function meaning c.args.share)
    ∙ sym (transformed-some parent meaning c.args.share)
