use Rattle.std.proofs.Common.{◌≡◌, ◌≤◌, length}
use Rattle.doc_names.specs.NameTexts.{texts_of}
use Rattle.bwe_specs.specs.Lists.{lists_of}
use Rattle.run_audit.specs.History.{line_after, take_lines}
use Rattle.run_audit.proofs.history.PrintedHistory.take_lines.Given as goal

abbrev pub invariant-loop-self : goal.invariant-loop-self
invariant-loop-self l = record {
  same : take_lines (texts_of l.names) (lists_of l.scripts) l.self l.text.lines ≡ take_lines (texts_of l.names) (lists_of l.scripts) l.initial.self l.initial.text.lines;
  taken : length l.self.taken ≡ length l.scripts;
  within : length l.self.reports ≤ l.total;
  left : l.text.left ≡ l.initial.text.left;
  number : l.text.number ≡ line_after l.self;
}

abbrev pub decreases-loop-self : goal.decreases-loop-self
decreases-loop-self l = length l.text.lines
