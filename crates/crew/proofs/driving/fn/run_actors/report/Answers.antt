use Rattle.std.proofs.Common.{List, Vec, sym, subst}
use Rattle.std.specs.declared.alloc.Global.{Global}
use Rattle.bwe_specs.specs.declared.report.Report.{Report}
use Rattle.crew.specs.Reporters.{IsReady}
use Rattle.crew.proofs.driving.fn.run_actors.report.Goals as goal

pub report_and_settle-requires : goal.report_and_settle-requires
report_and_settle-requires g c =
    let script = c.index-scripts-number.result in
    let named : IsReady g.N.Profile.reporters g.N.Profile.tasks g.N.Profile.links script.items c.args.pass.now =
    subst (λ (s : Vec Report Global). IsReady g.N.Profile.reporters g.N.Profile.tasks g.N.Profile.links s.items c.args.pass.now) (sym c.index-scripts-number.is) (c.requires.1 script) in
    let ready : IsReady g.N.Profile.reporters g.N.Profile.tasks g.N.Profile.links c.as_slice-script.result.now c.args.pass.now =
    subst (λ (reports : List Report). IsReady g.N.Profile.reporters g.N.Profile.tasks g.N.Profile.links reports c.args.pass.now) (sym c.as_slice-script.ensures.value) named in
    record { by = ready.by; allowed = ready.allowed; fresh = ready.fresh }
