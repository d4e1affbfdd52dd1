use Rattle.kept_tree.specs.Known.{AreKnown}
use Rattle.kept_tree.proofs.fill.add_all_answers.Given as goal

abbrev pub invariant-loop-list : goal.invariant-loop-list
invariant-loop-list g l = AreKnown l.tree l.known
