use Rattle.std.proofs.Common.{sym, ◌∙◌, ap, subst}
use Rattle.live_core.specs.Live.{plan_of}
use Rattle.live_session.specs.Standing.{after_line}
use Rattle.live_session.specs.Answers.{answer_in}
use Rattle.live_session.specs.Following.{Stands}
use Rattle.live_session.proofs.answer.answer_meaning.Goals as goal

pub report-requires-clause-fit : goal.report-requires-clause-fit
report-requires-clause-fit c = rw c.in-NewReport.is at c.requires.fit

pub returns-in_ok-report-in-NewReport-clause-text : goal.returns-in_ok-report-in-NewReport-clause-text
returns-in_ok-report-in-NewReport-clause-text c = λ standing stands.
    c.new.ensures.items ∙ sym (ap (answer_in c.args.known.now (plan_of c.args.core.now) standing c.args.number) c.in-NewReport.is)

pub returns-in_ok-report-in-NewReport-clause-stands : goal.returns-in_ok-report-in-NewReport-clause-stands
returns-in_ok-report-in-NewReport-clause-stands c = λ standing stands.
    subst (λ meaning. Stands c.report.new.self (after_line standing meaning)) (sym c.in-NewReport.is) (c.in_ok-report-in-NewReport.ensures.ok standing.accepted standing.written stands)

pub returns-in_ok-post-in-Post-clause-text : goal.returns-in_ok-post-in-Post-clause-text
returns-in_ok-post-in-Post-clause-text c = λ standing stands.
    c.in_ok-post-in-Post.ensures.text standing stands ∙ sym (ap (answer_in c.args.known.now (plan_of c.args.core.now) standing c.args.number) c.in-Post.is)

pub returns-in_ok-post-in-Post-clause-stands : goal.returns-in_ok-post-in-Post-clause-stands
returns-in_ok-post-in-Post-clause-stands c = λ standing stands.
    subst (λ meaning. Stands c.post.new.core (after_line standing meaning)) (sym c.in-Post.is) (c.in_ok-post-in-Post.ensures.stands standing stands)

pub returns-in_ok-state-in-State-clause-text : goal.returns-in_ok-state-in-State-clause-text
returns-in_ok-state-in-State-clause-text c = λ standing stands.
    c.in_ok-state-in-State.ensures standing stands ∙ sym (ap (answer_in c.args.known.now (plan_of c.args.core.now) standing c.args.number) c.in-State.is)

pub returns-in_ok-state-in-State-clause-stands : goal.returns-in_ok-state-in-State-clause-stands
returns-in_ok-state-in-State-clause-stands c = λ standing stands.
    subst (λ meaning. Stands c.args.core.now (after_line standing meaning)) (sym c.in-State.is) stands

pub returns-in_ok-refused_text-in-Refused-clause-text : goal.returns-in_ok-refused_text-in-Refused-clause-text
returns-in_ok-refused_text-in-Refused-clause-text c = λ standing stands.
    c.in_ok-refused_text-in-Refused.ensures ∙ sym (ap (answer_in c.args.known.now (plan_of c.args.core.now) standing c.args.number) c.in-Refused.is)

pub returns-in_ok-refused_text-in-Refused-clause-stands : goal.returns-in_ok-refused_text-in-Refused-clause-stands
returns-in_ok-refused_text-in-Refused-clause-stands c = λ standing stands.
    subst (λ meaning. Stands c.args.core.now (after_line standing meaning)) (sym c.in-Refused.is) stands
