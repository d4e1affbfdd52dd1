use Rattle.std.proofs.Common.{◌∙◌, arith, sym}
use Rattle.one_run.specs.Endings.{max_input, max_long_input}
use Rattle.live_run.proofs.Fronts.{missing-number, short-missing, short-number, too_long-none, too_long-some}
use Rattle.live_run.proofs.front.front_of.Goals as goal

pub returns-then-not-is_number : goal.returns-then-not-is_number
returns-then-not-is_number c =
    let wrong = sym c.is_number.ensures ∙ c.if-not-is_number.true in (
      missing-number c.args.bytes.now c.in-Some.line_feed (sym c.in-Some.ensures) wrong,
      short-missing max_input c.args.bytes.now c.in-Some.line_feed (sym c.in-Some.ensures) wrong,
    )

pub returns-in_default-number_of : goal.returns-in_default-number_of
returns-in_default-number_of c =
    too_long-none max_long_input c.args.bytes.now c.in-Some.line_feed (omega arith) (sym c.in-Some.ensures) (sym c.is_number.ensures ∙ c.if-not-is_number.false)
    (sym c.number_of.ensures ∙ c.in_default-number_of.is)

pub returns-then-number-gt-MAX_LONG_INPUT : goal.returns-then-number-gt-MAX_LONG_INPUT
returns-then-number-gt-MAX_LONG_INPUT c =
    too_long-some max_long_input c.args.bytes.now c.in-Some.line_feed c.in-Some-number_of.number (sym c.in-Some.ensures) (sym c.is_number.ensures ∙ c.if-not-is_number.false)
    (sym c.in-Some-number_of.ensures) (omega (arith, c.if-number-gt-MAX_LONG_INPUT.true))

pub whole-requires : goal.whole-requires
whole-requires c =
    short-number max_long_input c.args.bytes.now c.in-Some.line_feed c.in-Some-number_of.number (sym c.in-Some.ensures) (sym c.is_number.ensures ∙ c.if-not-is_number.false)
    (sym c.in-Some-number_of.ensures) (omega (arith, c.if-number-gt-MAX_LONG_INPUT.false))
