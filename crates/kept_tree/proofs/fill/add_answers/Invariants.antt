use Rattle.kept_tree.specs.Known.{AreKnown}
use Rattle.kept_tree.proofs.fill.add_answers.Given as goal

abbrev pub invariant-loop-answer : goal.invariant-loop-answer
invariant-loop-answer g l = AreKnown l.tree l.known
