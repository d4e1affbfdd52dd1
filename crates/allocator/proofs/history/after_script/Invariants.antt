use Rattle.std.proofs.Common.{◌≡◌, take}
use Rattle.allocator.proofs.history.after_script.Given as goal

abbrev pub invariant-loop-report : goal.invariant-loop-report
invariant-loop-report g l =
    g.M.Maker.absorbed l.maker (take l.report-index l.script) × (g.M.Maker.plan l.maker ≡ g.M.Maker.plan l.initial.maker)
