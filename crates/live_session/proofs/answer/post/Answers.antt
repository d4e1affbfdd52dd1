use Rattle.std.proofs.Common.{◌∙◌, ap, ap₂}
use Rattle.bwe_specs.specs.Allocation.{allocation}
use Rattle.change_text.specs.ChangeText.{change_text_of}
use Rattle.live_session.proofs.answer.post.Goals as goal

pub returns-clause-text : goal.returns-clause-text
returns-clause-text c = λ standing stands.
    c.in_ok-text.ensures
    ∙ ap (λ names. change_text_of names c.in_ok-earlier.earlier c.table.result.now) c.names.ensures
    ∙ ap₂ (change_text_of c.args.known.now.names)
    (c.in_ok-earlier.ensures.earlier ∙ stands.table)
    (c.table.ensures.same ∙ (c.in_ok-earlier.ensures.posted standing.accepted standing.written stands).table
    ∙ ap (λ plan. allocation plan standing.accepted) c.post.ensures.plan)
