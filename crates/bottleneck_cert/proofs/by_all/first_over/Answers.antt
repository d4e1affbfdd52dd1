use Rattle.std.proofs.Common.{sym, ◌∙◌, arith}
use Rattle.mpfa_fill.specs.Moment.{wan_in, state_of}
use Rattle.bottleneck_cert.proofs.Causes.{lowest-at, none-at}
use Rattle.bottleneck_cert.proofs.by_all.first_over.Goals as goal

pub returns-then-is_over : goal.returns-then-is_over
returns-then-is_over g c =
    sym (lowest-at (wan_in g.V.GroupValues.meaning c.args.moment.now) (state_of c.args.moment.now).closings (state_of c.args.moment.now).share c.loop-link.link (omega (arith, c.loop-link-test.true, c.requires.links))
    (sym c.is_over.ensures ∙ c.if-is_over.true) c.loop-link.invariant)

pub returns : goal.returns
returns g c =
    sym (none-at (wan_in g.V.GroupValues.meaning c.args.moment.now) (state_of c.args.moment.now).closings (state_of c.args.moment.now).share
    (λ link lt. c.loop-link.invariant link (omega (arith, lt, c.loop-link-test.false, c.requires.links))))
