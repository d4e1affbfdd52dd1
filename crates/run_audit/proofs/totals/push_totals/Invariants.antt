use Rattle.std.proofs.Common.{◌≡◌, length, take}
use Rattle.run_audit.specs.Checks.{AreTotals}
use Rattle.run_audit.proofs.totals.push_totals.Given as goal

abbrev pub invariant-loop-place : goal.invariant-loop-place
invariant-loop-place g l = record {
  absorbed : g.M.Maker.absorbed l.maker (take l.place l.history);
  plan : g.M.Maker.plan l.maker ≡ g.M.Maker.plan l.initial.maker;
  len : length l.totals.items ≡ l.place;
  totals : AreTotals l.asked l.place (λ prefix. g.M.Table.Posted.total_of (g.M.Maker.table_of (g.M.Maker.plan l.initial.maker) (take prefix l.history))) l.totals.items;
}
