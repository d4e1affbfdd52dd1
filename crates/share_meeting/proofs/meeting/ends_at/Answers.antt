use Rattle.std.proofs.Common.{◌∙◌, nat_le, arith}
use Rattle.bwe_specs.proofs.Bounds.{greatest-le}
use Rattle.share_meeting.proofs.meeting.ends_at.Goals as goal

pub met_at-requires-clause-inside : goal.met_at-requires-clause-inside
met_at-requires-clause-inside g c =
    omega (arith, c.in-Some.ensures.last, greatest-le c.args.top (λ t. nat_le (g.P.ShareFunction.meaning c.args.sum.now t) c.args.amount))

pub returns-in-Some-clause-meets : goal.returns-in-Some-clause-meets
returns-in-Some-clause-meets g c = c.met_at.ensures.low ∙ c.in-Some.ensures.last

pub returns-in-Some-clause-inside : goal.returns-in-Some-clause-inside
returns-in-Some-clause-inside g c =
    omega (arith, c.met_at.ensures.low, c.in-Some.ensures.last, greatest-le c.args.top (λ t. nat_le (g.P.ShareFunction.meaning c.args.sum.now t) c.args.amount))
