use Rattle.std.proofs.Common.{◌≡◌, ◌≤◌, take}
use Rattle.enforce_run.proofs.play.table_upto.Given as goal

abbrev pub invariant-loop-place : goal.invariant-loop-place
invariant-loop-place g l = record {
  within : l.place ≤ l.upto;
  absorbed : g.M.Maker.absorbed l.maker (take l.place l.script);
  plan : g.M.Maker.plan l.maker ≡ g.M.Maker.plan l.initial.maker;
}
