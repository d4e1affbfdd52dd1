use Rattle.std.proofs.Common.{nat_le, arith}
use Rattle.bwe_specs.proofs.Bounds.{greatest-le}
use Rattle.share_meeting.proofs.meeting.meeting_of.Goals as goal

pub returns-in-Some-clause-inside : goal.returns-in-Some-clause-inside
returns-in-Some-clause-inside g c =
    omega (arith, c.in-Some.ensures.last, greatest-le c.args.top (λ t. nat_le (g.P.ShareFunction.meaning c.args.sum.now t) c.args.amount))
