use Rattle.std.proofs.Common.{[], ◌∙◌, ap, ap₂, subst, sym}
use Rattle.bwe_specs.specs.Allocation.{allocation}
use Rattle.table_text.specs.TableText.{text_of}
use Rattle.live_lines.specs.Known.{Known}
use Rattle.live_session.specs.Following.{IsSession}
use Rattle.live_session.proofs.session.LiveSession.table_text.Goals as goal

pub returns : goal.returns
returns c = λ accepted is'.
    let is = subst (λ session. IsSession session accepted []) (sym c.self.view_is) is' in
    c.in_ok-text.ensures
    ∙ ap₂ text_of (c.names.ensures ∙ ap (λ (known : Known). known.names) is.known)
    (c.table.ensures.same ∙ is.stands.table ∙ ap (λ plan. allocation plan accepted.script) is.plan)
