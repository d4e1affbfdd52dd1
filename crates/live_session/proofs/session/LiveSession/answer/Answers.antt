use Rattle.std.proofs.Common.{refl, sym, ◌+◌, subst}
use Rattle.live_session.specs.Following.{HasFollowed}
use Rattle.live_session.proofs.Followed.{answers, follows, fits-owned, session_of}
use Rattle.live_session.proofs.session.LiveSession.answer.Goals as goal

pub answer_meaning-requires-clause-fit : goal.answer_meaning-requires-clause-fit
answer_meaning-requires-clause-fit c = fits-owned c.meaning-meaning.result c.self.inside.known c.self.inside.core c.self.invariant c.meaning-meaning.ensures.fit

pub returns-clause-text : goal.returns-clause-text
returns-clause-text c = λ document lines followed.
    answers (session_of c.self.inside.core c.self.inside.known c.self.inside.lines) document lines _ (c.self.inside.lines + 1) c.meaning-meaning.result
    c.in_ok-text.text.items refl c.meaning-meaning.ensures.exact c.in_ok-text.ensures.text
    (subst (λ session. HasFollowed session document lines) (sym c.self.view_is) followed)

pub returns-clause-followed : goal.returns-clause-followed
returns-clause-followed c = λ document lines followed.
    follows (session_of c.self.inside.core c.self.inside.known c.self.inside.lines)
    (session_of c.answer_meaning.new.core c.self.inside.known (c.self.inside.lines + 1)) document lines _ c.meaning-meaning.result
    refl refl c.answer_meaning.ensures.plan c.meaning-meaning.ensures.exact c.in_ok-text.ensures.stands
    (subst (λ session. HasFollowed session document lines) (sym c.self.view_is) followed)
