use Rattle.std.proofs.Common.{◌≡◌, ◌≤◌, ◌+◌, ◌++◌, length, List}
use Rattle.std.specs.List.{All}
use Rattle.bwe_specs.specs.declared.report.Report.{Report}
use Rattle.bwe_specs.specs.declared.limits.TheConstants.{MAX_REPORTS}
use Rattle.bwe_specs.specs.Fit.{IsFit}
use Rattle.board_workshop.proofs.absorb_all.Given as goal

abbrev pub invariant-loop-report : goal.invariant-loop-report
invariant-loop-report g l = record {
  plan : g.M.Maker.plan l.maker ≡ g.M.Maker.plan l.initial.maker;
  fit : All (IsFit (g.M.Maker.plan_tasks (g.M.Maker.plan l.initial.maker)) (g.M.Maker.plan_links (g.M.Maker.plan l.initial.maker))) l.waiting.items;
  room : (taken : List Report) × g.M.Maker.absorbed l.maker taken × (length taken + length l.waiting.items ≤ MAX_REPORTS);
  absorbed : (taken : List Report) → g.M.Maker.absorbed l.initial.maker taken
      → (more : List Report) × (l.initial.waiting.items ≡ more ++ l.waiting.items) × g.M.Maker.absorbed l.maker (taken ++ more);
}

abbrev pub decreases-loop-report : goal.decreases-loop-report
decreases-loop-report g l = length l.waiting.items
