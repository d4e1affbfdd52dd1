use Rattle.std.proofs.Common.{◌∙◌, ap}
use Rattle.share_meeting.specs.Inner.{inner_share_of}
use Rattle.share_transform.specs.Transform.{Transformation}
use Rattle.share_transform.proofs.transform.Transform.look.Goals as goal

pub returns-clause-value : goal.returns-clause-value
returns-clause-value g c =
    let sum = g.P.ShareFunction.meaning c.args.sum.now in
    c.look_by.ensures.value
    ∙ ap (λ (transformation : Transformation). sum (inner_share_of transformation.parent sum c.args.share)) c.self.view_is
