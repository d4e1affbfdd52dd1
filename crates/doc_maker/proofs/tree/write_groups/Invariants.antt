use Rattle.std.proofs.Common.{◌≡◌, ◌++◌, map}
use Rattle.bwe_specs.specs.Reports.{numbers}
use Rattle.doc_maker.specs.Layout.{group_value}
use Rattle.doc_maker.specs.Made.{made_group}
use Rattle.doc_maker.specs.Writing.{each_tokens}
use Rattle.doc_maker.proofs.tree.write_groups.Given as goal

abbrev pub invariant-loop-group : goal.invariant-loop-group
invariant-loop-group l = (l.out.tokens ≡ l.initial.out.tokens ++ each_tokens group_value (map (made_group l.size) (numbers l.group))) × (l.out.before ≡ l.initial.out.before)
