use Rattle.std.proofs.Common.{◌∙◌, ap, sym}
use Rattle.top_call.specs.TopCall.{is_too_long}
use Rattle.top_call.proofs.reading.read_input_of.Goals as goal

pub returns-in-Err-clause-too_long : goal.returns-in-Err-clause-too_long
returns-in-Err-clause-too_long g c = λ is. absurd (c.in-Err.ensures.not_judged is)

pub returns-then-long-clause-too_long : goal.returns-then-long-clause-too_long
returns-then-long-clause-too_long g c = λ _. (
  c.in-Ok.input.items,
  rw c.has_input.ensures at c.in-Ok.ensures.input,
  ap (is_too_long c.args.line) (sym c.deref.ensures.value) ∙ sym c.in-Ok-is_too_long.ensures ∙ c.if-long.true,
)

pub returns-clause-short : goal.returns-clause-short
returns-clause-short g c = ap (is_too_long c.args.line) (sym c.deref.ensures.value) ∙ sym c.in-Ok-is_too_long.ensures ∙ c.if-long.false
