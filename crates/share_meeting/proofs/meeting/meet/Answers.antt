use Rattle.std.proofs.Common.{◌≡◌, ◌∙◌, ap, arith, le-leb}
use Rattle.share_meeting.proofs.Meets.{greatest_meets}
use Rattle.share_meeting.proofs.meeting.meet.Goals as goal
use Rattle.share_meeting.proofs.meeting.meet.Goals.{in-Some, in-None}

pub returns-clause-meets : goal.returns-clause-meets
returns-clause-meets g c =
    let sum = g.P.ShareFunction.meaning c.args.sum.now in
    let is = c.requires.meaning in
    let met = c.drawn_together.result in
    let found = c.drawn_together.ensures in
    let top : met.top ≡ c.args.top =
    elim c.match-pair.branch [
      | in-Some w ↦ found.top ∙ ap (λ ends. ends.top) w.ends-is ∙ w.beside-ends.ensures.top
      | in-None w ↦ found.top ∙ ap (λ ends. ends.top) w.ends-is
    ] in
    let order = found.ends.order in
    let upto = found.ends.upto in
    greatest_meets sum c.args.amount c.args.top met.low met.low is (omega arith) (le-leb (sum met.low) c.args.amount found.ends.fits)
    (λ s above upto. absurd (omega arith))
    (λ s past within.
    let over = found.ends.over (omega (arith, found.neighbours)) in
    omega (arith, over, is.grows met.high s (omega (arith, found.neighbours))))
