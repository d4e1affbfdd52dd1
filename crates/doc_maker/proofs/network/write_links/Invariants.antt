use Rattle.std.proofs.Common.{◌≡◌, ◌++◌, map}
use Rattle.bwe_specs.specs.Reports.{numbers}
use Rattle.doc_maker.specs.Layout.{link_value}
use Rattle.doc_maker.specs.Made.{made_link}
use Rattle.doc_maker.specs.Writing.{each_tokens}
use Rattle.doc_maker.proofs.network.write_links.Given as goal

abbrev pub invariant-loop-link : goal.invariant-loop-link
invariant-loop-link l = (l.out.tokens ≡ l.initial.out.tokens ++ each_tokens link_value (map (made_link l.size) (numbers l.link))) × (l.out.before ≡ l.initial.out.before)
