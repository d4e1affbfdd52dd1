use Rattle.std.proofs.Common.{◌∙◌, ap, ap₂}
use Rattle.change_text.specs.StateText.{state_text_of}
use Rattle.live_session.proofs.answer.state.Goals as goal

pub returns : goal.returns
returns c = λ standing stands.
    c.in_ok-text.ensures
    ∙ ap (λ names. state_text_of names c.deref.result.now c.reports.result) c.names.ensures
    ∙ ap₂ (state_text_of c.args.known.now.names)
    (c.deref.ensures.value ∙ c.in_ok-reports.ensures.snapshot standing.accepted standing.written stands)
    (c.reports.ensures.count standing.accepted standing.written stands)
