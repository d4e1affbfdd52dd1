use Rattle.one_run.proofs.refuse_input.Goals as goal

pub returns-in-TooLong-clause-too_long : goal.returns-in-TooLong-clause-too_long
returns-in-TooLong-clause-too_long g c = λ is. rw c.as_bytes.ensures.value at c.write_text.ensures

pub returns-in-FarTooLong-clause-far_too_long : goal.returns-in-FarTooLong-clause-far_too_long
returns-in-FarTooLong-clause-far_too_long g c = λ is. rw c.as_bytes-in-FarTooLong.ensures.value at c.write_text-in-FarTooLong.ensures
