use Rattle.std.proofs.Common.{refl, sym, ap, Some, Err}
use Rattle.one_run.proofs.Ends.{ending-finished, ending-refused}
use Rattle.top_call.proofs.Solved.{solved-serves}
use Rattle.bwe_cli.proofs.serve_in_time.Goals as goal

pub returns-in-Solve : goal.returns-in-Solve
returns-in-Solve g c = solved-serves _ _ _ (sym (ap Some c.in-Solve.is)) c.solve_once.ensures

pub returns-in-Ok : goal.returns-in-Ok
returns-in-Ok g c =
    ending-finished _ _ _ c.args.line refl c.in-Ok.ensures.untouched c.in-Ok.ensures.input c.in-Ok.ensures.short
    c.answer_in_time.result (rw c.deref.ensures.value at c.answer_in_time.ensures) c.finish.ensures

pub returns-in-Err : goal.returns-in-Err
returns-in-Err g c =
    ending-refused _ _ _ c.args.line refl c.in-Err.ensures.untouched
    c.in-Err.error (λ is. c.in-Err.ensures.fault (ap Err is)) (λ is. c.in-Err.ensures.too_long (ap Err is)) (λ is. c.in-Err.ensures.far_too_long (ap Err is))
    c.refuse_input.ensures.fault c.refuse_input.ensures.too_long c.refuse_input.ensures.far_too_long c.refuse_input.ensures.memory
