use Rattle.std.proofs.Common.{◌∙◌, arith, sym}
use Rattle.std.proofs.lemmas.Bool.{ltb-false, ltb-true}
use Rattle.one_run.specs.Endings.{max_input}
use Rattle.live_run.proofs.Fronts.{short-missing, short-number, short-unended, too_long-none, too_long-some}
use Rattle.live_run.proofs.front.says_long.Goals as goal

pub returns-in_default-clause-no : goal.returns-in_default-clause-no
returns-in_default-clause-no c = λ _. short-unended max_input c.args.bytes.now (sym c.first_line_feed.ensures ∙ c.in_default.is)

pub returns-then-not-is_number-clause-no : goal.returns-then-not-is_number-clause-no
returns-then-not-is_number-clause-no c = λ _.
    short-missing max_input c.args.bytes.now c.in-Some.line_feed (sym c.in-Some.ensures) (sym c.is_number.ensures ∙ c.if-not-is_number.true)

pub returns-in_default-number_of-clause-yes : goal.returns-in_default-number_of-clause-yes
returns-in_default-number_of-clause-yes c = λ _.
    too_long-none max_input c.args.bytes.now c.in-Some.line_feed (omega arith) (sym c.in-Some.ensures) (sym c.is_number.ensures ∙ c.if-not-is_number.false)
    (sym c.number_of.ensures ∙ c.in_default-number_of.is)

pub returns-clause-yes : goal.returns-clause-yes
returns-clause-yes c = λ is.
    too_long-some max_input c.args.bytes.now c.in-Some.line_feed c.in-Some-number_of.number (sym c.in-Some.ensures) (sym c.is_number.ensures ∙ c.if-not-is_number.false)
    (sym c.in-Some-number_of.ensures) (ltb-true 67_108_864 c.in-Some-number_of.number is)

pub returns-clause-no : goal.returns-clause-no
returns-clause-no c = λ is.
    short-number max_input c.args.bytes.now c.in-Some.line_feed c.in-Some-number_of.number (sym c.in-Some.ensures) (sym c.is_number.ensures ∙ c.if-not-is_number.false)
    (sym c.in-Some-number_of.ensures) (omega (arith, ltb-false 67_108_864 c.in-Some-number_of.number is))
