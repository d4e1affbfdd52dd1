use Rattle.std.proofs.Common.{◌≡◌, length}
use Rattle.run_audit.proofs.WordFacts.{AreCut}
use Rattle.run_audit.proofs.words.split.Given as goal

abbrev pub invariant-loop-count : goal.invariant-loop-count
invariant-loop-count l = record {
  places : length l.words ≡ 7;
  so_far : AreCut (λ word. word.now) l.words l.count l.rest l.line;
}
