use Rattle.std.proofs.Common.{◌≡◌, ℕ, ◌<◌, ◌≤◌, length, get_or}
use Rattle.std.specs.List.{All}
use Rattle.board_core.specs.Core.{IsAllowed}
use Rattle.bwe_specs.specs.Fit.{IsFit}
use Rattle.crew_log.specs.LegalCrewLog.{IsReaderOf}
use Rattle.crew_readers.specs.Gates.{EndsAreShown}
use Rattle.crew_readers.specs.Readers.{HasEnded}
use Rattle.crew_readers.proofs.ending.end_all.Given as goal

abbrev pub invariant-loop-number : goal.invariant-loop-number
invariant-loop-number g l = record {
  lines_count : length l.lines.items ≡ length l.initial.lines.items;
  count : length l.passes ≡ length l.initial.passes;
  readers_count : length l.readers.items ≡ l.number;
  lines_left : (place : ℕ) (other : _) → l.number ≤ place → get_or l.lines.items place other ≡ get_or l.initial.lines.items place other;
  passes_left : (place : ℕ) (other : _) → l.number ≤ place → get_or l.passes place other ≡ get_or l.initial.passes place other;
  readers : All (IsReaderOf g.N.Profile.belongs g.T.Posted.total_of (IsAllowed g.N.Profile.reporters (IsFit g.N.Profile.tasks g.N.Profile.links)) l.reads l.end) l.readers.items;
  closed : All (λ reader. reader.length ≡ length l.end) l.readers.items;
  shown : EndsAreShown g.G.Gate.begins g.G.Gate.shows l.reads l.initial.lines.items l.readers.items;
  ended : (place : ℕ) (reader : _) (pass : _) → place < l.number → HasEnded g.T.Posted.covers l.reads l.end (get_or l.readers.items place reader) (get_or l.passes place pass);
}
