use Rattle.std.proofs.Common.{◌≡◌, ◌≤◌, length}
use Rattle.std.specs.List.{All}
use Rattle.doc_names.specs.NameTexts.{texts_of}
use Rattle.bwe_specs.specs.Lists.{lists_of}
use Rattle.run_audit.specs.Walk.{IsDue}
use Rattle.run_audit.specs.Checks.{pursue, with_checks}
use Rattle.run_audit.proofs.walk.pursue.Given as goal

abbrev pub invariant-loop-bytes : goal.invariant-loop-bytes
invariant-loop-bytes l = record {
  same : with_checks l.checks.items (pursue (texts_of l.names) (lists_of l.scripts) l.text.left l.walk l.text.number l.text.lines)
      ≡ pursue (texts_of l.names) (lists_of l.scripts) l.initial.text.left l.initial.walk l.initial.text.number l.initial.text.lines;
  due : IsDue (length l.scripts) l.walk.due;
  prefixes : All (λ check. check.prefix ≤ l.total) l.checks.items;
  left : l.text.left ≡ l.initial.text.left;
}

abbrev pub decreases-loop-bytes : goal.decreases-loop-bytes
decreases-loop-bytes l = length l.text.lines
