use Rattle.std.proofs.Common.{◌++◌, ◌∷◌, [], sym, subst}
use Rattle.last_reports.proofs.Putting.{in_range-told}
use Rattle.live_core.specs.Live.{IsLive, plan_of}
use Rattle.live_core.proofs.Standing.{IsFitFor, live-report}
use Rattle.live_core.proofs.live.LiveCore.report.Goals as goal

pub put-requires : goal.put-requires
put-requires c =
    let fits = subst (λ live. IsFitFor (plan_of live) c.args.report) (sym c.self.view_is) c.requires.fit in
    in_range-told _ _ c.self.invariant.0 c.self.inside.told c.args.report.target c.self.invariant.2.told fits.0

pub invariant_of-self-2 : goal.invariant_of-self-2
invariant_of-self-2 c =
    let fits = subst (λ live. IsFitFor (plan_of live) c.args.report) (sym c.self.view_is) c.requires.fit in (
      c.self.invariant.0 ++ c.args.report ∷ [],
      c.self.invariant.1,
      live-report c.self.inside.allocator c.take_in.new.self c.self.inside.told c.put.new.self c.self.inside.table c.args.report
          c.take_in.ensures.plan fits c.in_ok-take_in.ensures.ok c.put.ensures c.self.invariant.0 c.self.invariant.1 c.self.invariant.2,
    )

pub returns-clause-ok : goal.returns-clause-ok
returns-clause-ok c = λ accepted written is.
    let fits = subst (λ live. IsFitFor (plan_of live) c.args.report) (sym c.self.view_is) c.requires.fit in
    live-report c.self.inside.allocator c.take_in.new.self c.self.inside.told c.put.new.self c.self.inside.table c.args.report
    c.take_in.ensures.plan fits c.in_ok-take_in.ensures.ok c.put.ensures accepted written
    (subst (λ live. IsLive live accepted written) (sym c.self.view_is) is)
