use Rattle.std.proofs.Common.{◌≡◌, ◌+◌, ◌-◌, ◌^◌, min}
use mathlib.Core.List.{IsPrefix}
use Rattle.crew_actors.proofs.allocating.make_rounds.Given as goal

abbrev pub invariant-loop-call : goal.invariant-loop-call
invariant-loop-call g l = record {
  seen : IsPrefix l.initial.pass.posted l.pass.posted;
  rounds : l.pass.rounds ≡ min (l.initial.pass.rounds + l.call) (2 ^ 64 - 1);
}
