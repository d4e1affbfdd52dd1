use Rattle.std.proofs.Common.{◌≡◌, ◌≤◌, ◌-◌, take}
use Rattle.board_core.proofs.state.absorb_upto.Given as goal

abbrev pub invariant-loop-taken : goal.invariant-loop-taken
invariant-loop-taken g l = record {
  rising : l.initial.taken ≤ l.taken;
  within : l.taken ≤ l.upto;
  absorbed : g.M.Maker.absorbed l.maker (take l.taken l.log);
  plan : g.M.Maker.plan l.maker ≡ g.M.Maker.plan l.initial.maker;
}

abbrev pub decreases-loop-taken : goal.decreases-loop-taken
decreases-loop-taken g l = l.upto - l.taken
