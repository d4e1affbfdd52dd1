use Rattle.std.proofs.Common.{◌≡◌, ◌++◌, take}
use Rattle.doc_maker.specs.Layout.{point_value}
use Rattle.doc_maker.specs.Writing.{each_tokens}
use Rattle.doc_maker.proofs.tree.write_function.Given as goal

abbrev pub invariant-loop-share : goal.invariant-loop-share
invariant-loop-share l = (l.out.tokens ≡ l.initial.out.tokens ++ each_tokens point_value (take l.share-index l.points)) × (l.out.before ≡ l.initial.out.before)
