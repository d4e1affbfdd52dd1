use Rattle.std.proofs.Common.{◌≡◌, ◌≤◌, ◌+◌, ◌-◌, ◌^◌, min, length}
use Rattle.std.specs.List.{All}
use mathlib.Core.List.{IsPrefix}
use Rattle.crew_log.specs.Lines.{IsLineOf, NeverGoBack}
use Rattle.crew_readers.specs.Gates.{AreShown}
use Rattle.crew_readers.proofs.reading.read_lines.Given as goal

abbrev pub invariant-loop-call : goal.invariant-loop-call
invariant-loop-call g l = record {
  log : IsPrefix l.initial.pass.log l.pass.log;
  floor : g.T.Posted.covers l.initial.pass.table ≤ g.T.Posted.covers l.pass.table;
  count : length l.lines.items ≡ l.call;
  lines : All (IsLineOf g.N.Profile.belongs g.T.Posted.total_of l.pass.log) l.lines.items;
  never_back : NeverGoBack (g.T.Posted.covers l.initial.pass.table) l.lines.items (g.T.Posted.covers l.pass.table);
  reads : l.pass.reads ≡ l.initial.pass.reads + l.call;
  told : l.pass.learnt ≡ min (l.initial.pass.learnt + l.call) (2 ^ 64 - 1);
  shown : AreShown g.G.Gate.begins g.G.Gate.shows l.reader l.lines.items;
}
