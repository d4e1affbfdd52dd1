use Rattle.std.proofs.Common.{refl, sym, ap, ◌∙◌, Err}
use Rattle.one_run.proofs.Ends.{Keeps-same, ending-usage, ending-unparsed, ending-finished, ending-refused}
use Rattle.top_call.specs.TopCall.{of_one_thread}
use Rattle.top_call.proofs.bwe_once.Goals as goal

pub returns-in-Err : goal.returns-in-Err
returns-in-Err g c = ending-unparsed _ _ _ refl (Keeps-same _)

pub returns-in_default : goal.returns-in_default
returns-in_default g c =
    ending-usage _ _ _ (ap of_one_thread (sym c.in-Ok.ensures.line) ∙ sym c.in_one_thread-line.ensures.line ∙ c.in_default.is) refl c.write_usage.ensures

pub returns-in-Ok-read_input_of : goal.returns-in-Ok-read_input_of
returns-in-Ok-read_input_of g c =
    ending-finished _ _ _ c.in-Some.line (ap of_one_thread (sym c.in-Ok.ensures.line) ∙ sym c.in-Some.ensures.line)
    c.in-Ok-read_input_of.ensures.untouched c.in-Ok-read_input_of.ensures.input c.in-Ok-read_input_of.ensures.short
    c.answer_in_turn.result (rw c.deref.ensures.value at c.answer_in_turn.ensures) c.finish.ensures

pub returns-in-Err-read_input_of : goal.returns-in-Err-read_input_of
returns-in-Err-read_input_of g c =
    ending-refused _ _ _ c.in-Some.line (ap of_one_thread (sym c.in-Ok.ensures.line) ∙ sym c.in-Some.ensures.line) c.in-Err-read_input_of.ensures.untouched
    c.in-Err-read_input_of.error (λ is. c.in-Err-read_input_of.ensures.fault (ap Err is)) (λ is. c.in-Err-read_input_of.ensures.too_long (ap Err is)) (λ is. c.in-Err-read_input_of.ensures.far_too_long (ap Err is))
    c.refuse_input.ensures.fault c.refuse_input.ensures.too_long c.refuse_input.ensures.far_too_long c.refuse_input.ensures.memory
