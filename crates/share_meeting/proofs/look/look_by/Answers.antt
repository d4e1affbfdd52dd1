use Rattle.std.proofs.Common.{◌∙◌, ap}
use Rattle.share_meeting.proofs.Meets.{inner_share-met}
use Rattle.share_meeting.proofs.look.look_by.Goals as goal

pub returns-clause-value : goal.returns-clause-value
returns-clause-value g c =
    let sum = g.P.ShareFunction.meaning c.args.sum.now in
    let met = c.ends_at-met in
    c.look_from.ensures
    ∙ met.ensures.value
    ∙ ap sum (inner_share-met c.args.parent.now sum c.args.share c.top.result c.value.result met.result.low met.ensures.meets c.value.ensures.value c.top.ensures.top)
