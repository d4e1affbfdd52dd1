use Rattle.std.proofs.Common.{◌≡◌, true, false, refl, sym, ap, None, Some, Err}
use Rattle.std.proofs.lemmas.Bool.{false≢true}
use Rattle.one_run.specs.declared.InputError.TheVariants.{OutOfMemory}
use Rattle.one_run.specs.Endings.{answered, too_long}
use Rattle.one_run.proofs.Ends.{ending-refused, ending-writes}
use Rattle.solve_reply.specs.SolveCall.{IsForInput}
use Rattle.bwe_solve.proofs.solve_call.solve_once.Goals as goal

-- an input is read
never : {P : Type 0} → true ≡ false → P
never e = absurd (false≢true (sym e))

pub returns-in-Err : goal.returns-in-Err
returns-in-Err g c =
    ending-refused _ _ _ tt refl never
    c.in-Err.error (λ is. c.in-Err.ensures.fault (ap Err is)) (λ is. absurd (c.in-Err.ensures.not_judged (ap Err is))) (λ is. c.in-Err.ensures.too_long (ap Err is))
    c.refuse_input.ensures.fault c.refuse_input.ensures.too_long c.refuse_input.ensures.far_too_long c.refuse_input.ensures.memory

pub returns-in-Ok-Some : goal.returns-in-Ok-Some
returns-in-Ok-Some g c =
    let found = rw c.in-Ok-Some.field-0-is at c.in-Ok-Some.ensures in
    let answer : IsForInput c.in-Ok.input.items (Some c.in-Ok-Some.answer) = found in
    ending-writes _ _ _ (answered refl c.in-Ok.ensures.input answer.0 answer.1) c.finish.ensures

pub returns-in-Ok-None : goal.returns-in-Ok-None
returns-in-Ok-None g c =
    let found = rw c.in-Ok-None.field-0-is at c.in-Ok-None.ensures in
    let long : IsForInput c.in-Ok.input.items None = found in
    ending-writes _ _ _ (too_long refl c.in-Ok.ensures.input long) (c.refuse_input-in-Ok-None.ensures.too_long refl)

pub returns-in-Err-solve_unless_too_long : goal.returns-in-Err-solve_unless_too_long
returns-in-Err-solve_unless_too_long g c =
    ending-refused _ _ _ tt refl never
    OutOfMemory (λ is. absurd cc) (λ is. absurd cc) (λ is. absurd cc)
    c.refuse_input-in-Err-solve_unless_too_long.ensures.fault c.refuse_input-in-Err-solve_unless_too_long.ensures.too_long c.refuse_input-in-Err-solve_unless_too_long.ensures.far_too_long c.refuse_input-in-Err-solve_unless_too_long.ensures.memory
