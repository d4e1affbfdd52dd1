use Rattle.std.proofs.Common.{nat_le, ◌∙◌, arith}
use Rattle.bwe_specs.proofs.Bounds.{greatest-le}
use Rattle.share_meeting.proofs.Meets.{inner_share-met}
use Rattle.share_transform.proofs.transform.meeting_at.Goals as goal

pub met_at-requires-clause-inside : goal.met_at-requires-clause-inside
met_at-requires-clause-inside g c =
    let found = c.in-Some.ensures.last in
    omega (arith, found, greatest-le c.top-top.result (λ t. nat_le (g.P.ShareFunction.meaning c.args.sum.now t) c.value-amount.result))

pub returns-in-Some-clause-inner : goal.returns-in-Some-clause-inner
returns-in-Some-clause-inner g c =
    c.met_at.ensures.low
    ∙ inner_share-met c.args.parent.now (g.P.ShareFunction.meaning c.args.sum.now) c.args.share c.top-top.result c.value-amount.result c.in-Some.inner c.in-Some.ensures.last c.value-amount.ensures.value c.top-top.ensures.top

pub returns-in-Some-clause-inside : goal.returns-in-Some-clause-inside
returns-in-Some-clause-inside g c =
    omega (
      arith,
      c.met_at.ensures.low,
      c.in-Some.ensures.last,
      greatest-le c.top-top.result (λ t. nat_le (g.P.ShareFunction.meaning c.args.sum.now t) c.value-amount.result),
      c.top-top.ensures.top,
    )

pub returns-clause-inner : goal.returns-clause-inner
returns-clause-inner g c =
    inner_share-met c.args.parent.now (g.P.ShareFunction.meaning c.args.sum.now) c.args.share c.top-top.result c.value-amount.result c.meet.result.low c.meet.ensures.meets c.value-amount.ensures.value c.top-top.ensures.top

pub returns-clause-right_pair : goal.returns-clause-right_pair
returns-clause-right_pair g c =
    λ held.
    c.meet.ensures.right_pair (c.bracket_of-first.ensures.pair c.meet.result.low held)
