use Rattle.std.proofs.Common.{◌∙◌, ap, sym, Option}
use Rattle.bw_function.specs.BwFunction.{Function}
use Rattle.policy_tree.specs.States.{transformed}
use Rattle.policy_tree.proofs.Transforms.{transformed-meaning, transformed-none, transformed-some}
use Rattle.policy_tree.proofs.value.value_at.Goals as goal

pub returns-in-None-clause-value : goal.returns-in-None-clause-value
returns-in-None-clause-value g c =
    let meaning = g.P.ShareFunction.meaning c.args.sum.now in
    c.value.ensures.value
    ∙ sym (transformed-none meaning c.args.share)
    ∙ ap (λ (t : Option Function). transformed t meaning c.args.share) (sym c.in-None.is)

pub returns-in-None-clause-meaning : goal.returns-in-None-clause-meaning
returns-in-None-clause-meaning g c = transformed-meaning _ _ c.requires c.value.ensures.meaning

pub returns-in-Some-clause-value : goal.returns-in-Some-clause-value
returns-in-Some-clause-value g c =
    let meaning = g.P.ShareFunction.meaning c.args.sum.now in
    c.value_by_parent.ensures.value
    ∙ sym (transformed-some c.in-Some.parent meaning c.args.share)
    ∙ ap (λ (t : Option Function). transformed t meaning c.args.share) (sym c.in-Some.is)

pub returns-in-Some-clause-meaning : goal.returns-in-Some-clause-meaning
returns-in-Some-clause-meaning g c = transformed-meaning _ _ c.requires c.value_by_parent.ensures.meaning
