use Rattle.std.proofs.Common.{ap, ◌∙◌}
use Rattle.share_meeting.proofs.Meets.{inner_share-met}
use Rattle.policy_tree.proofs.value.value_by_parent.Goals as goal

pub returns-clause-value : goal.returns-clause-value
returns-clause-value g c =
    let sum = g.P.ShareFunction.meaning c.args.sum.now in
    let met = c.meeting_of-met in
    met.ensures.value
    ∙ ap sum (inner_share-met c.args.parent.now sum c.args.share c.top-top.result c.value.result met.result.share met.ensures.share c.value.ensures.value c.top-top.ensures.top)
