use Rattle.std.proofs.Common.{◌≡◌, take}
use Rattle.board_log.specs.Laws.{without_places}
use Rattle.crew_actors.proofs.reporting.report_script.Given as goal

abbrev pub invariant-loop-call : goal.invariant-loop-call
invariant-loop-call g l = record {
  number : l.pass.number ≡ l.initial.pass.number;
  own : without_places l.pass.own ≡ take l.call l.script;
}
