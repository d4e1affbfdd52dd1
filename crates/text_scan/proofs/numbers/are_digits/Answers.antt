use Rattle.std.proofs.Common.{ℕ, rules, tests, ◌∙◌}
use Rattle.std.specs.Char.{is_ascii_digit}
use Rattle.std.proofs.lemmas.Iterator.{YieldsList-from_slice}
use Rattle.std.proofs.lemmas.Iterator.Search.{all_from_yields_List}
use Rattle.text_scan.proofs.NumberFacts.{each_digit}
use Rattle.text_scan.proofs.numbers.are_digits.Goals as goal

pub returns : goal.returns
returns c =
    all_from_yields_List (λ (byte : ℕ). is_ascii_digit byte) _ _ c.all.result c.all.ensures.ran (YieldsList-from_slice c.args.text.now cc) (λ x b q k. search (rules, tests))
    ∙ each_digit c.args.text.now
