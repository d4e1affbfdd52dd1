use Rattle.std.proofs.Common.{sym, ◌∙◌, ap, is_ok}
use Rattle.live_session.specs.Answers.{accepts, first_text, first_by}
use Rattle.live_session.proofs.Followed.{refused-is}
use Rattle.live_session.proofs.session.LiveSession.open.Goals as goal

pub returns-in_ok-text-in-Ok-clause-text : goal.returns-in_ok-text-in-Ok-clause-text
unfolding first_text
returns-in_ok-text-in-Ok-clause-text c =
    let read = c.in-Ok.ensures.exact in
    c.in_ok-text-in-Ok.ensures read.0 (c.in_ok-session-in-Ok.ensures read.0 read.2) ∙ ap first_by (sym read.1)

pub returns-in_ok-text-in-Ok-clause-accepted : goal.returns-in_ok-text-in-Ok-clause-accepted
unfolding accepts
returns-in_ok-text-in-Ok-clause-accepted c =
    let read = c.in-Ok.ensures.exact in
    (ap is_ok read.1, (read.0, read.1, c.in_ok-session-in-Ok.ensures read.0 read.2))

pub returns-in_ok-refusal_line-in-Err-clause-text : goal.returns-in_ok-refusal_line-in-Err-clause-text
unfolding first_text
returns-in_ok-refusal_line-in-Err-clause-text c = (refused-is _ _ c.in_ok-refusal_line-in-Err.field-0.items c.in-Err.ensures.exact c.in_ok-refusal_line-in-Err.ensures).0

pub returns-in_ok-refusal_line-in-Err-clause-refused : goal.returns-in_ok-refusal_line-in-Err-clause-refused
unfolding accepts
returns-in_ok-refusal_line-in-Err-clause-refused c = λ none. (refused-is _ _ c.in_ok-refusal_line-in-Err.field-0.items c.in-Err.ensures.exact c.in_ok-refusal_line-in-Err.ensures).1
