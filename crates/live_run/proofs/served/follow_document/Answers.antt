use Rattle.std.proofs.Common.{◌≡◌, List, [], ℕ, false, Err, ap, refl, subst, sym, take}
use Rattle.std.specs.Prelude.{IsNone}
use Rattle.live_run.specs.Answers.{Gives, GivesFirst}
use Rattle.live_run.specs.Conversation.{Converses, Passed}
use Rattle.live_run.specs.Endings.{HasStopped, refused}
use Rattle.two_part.specs.TwoPart.{document_in}
use Rattle.live_run.proofs.Conversing.{Converses-append, Converses-gives}
use Rattle.live_run.proofs.Ends.{ends-after, first-part, refused-text}
use Rattle.live_run.proofs.Steps.{Converses-kept, stop-cases, whole-nothing}
use Rattle.live_run.proofs.served.follow_document.Goals as goal

pub returns-in-Err : goal.returns-in-Err
returns-in-Err g c =
    let first : List ℕ = g.F.Follower.follow.first_text (document_in c.args.bytes.items c.args.parts) in
    stop-cases
    (λ stop. (after : Passed) × Converses g.F.Follower.follow (g.S.Stream.talk c.args.stream.now) (g.S.Stream.talk c.open_document.new.stream) (record { read = c.args.bytes.items; written = [] }) after
    × HasStopped g.F.Follower.follow 0 (g.S.Stream.faults c.args.stream.now) (g.S.Stream.faults c.open_document.new.stream) after stop)
    c.in-Err.stop
    (λ is. absurd (c.in-Err.ensures.asks (ap Err is)))
    (λ is.
    let part : GivesFirst (g.S.Stream.talk c.args.stream.now) (g.S.Stream.talk c.open_document.new.stream) first =
    subst (λ (b : List ℕ). GivesFirst (g.S.Stream.talk c.args.stream.now) (g.S.Stream.talk c.open_document.new.stream) (g.F.Follower.follow.first_text (document_in b c.args.parts))) c.deref.ensures.value (c.in-Err.ensures.partly (ap Err is)) in (
      record { read = c.args.bytes.items; written = take part.count first },
      Converses-gives g.F.Follower.follow _ _ c.args.bytes.items [] (take part.count first) (take part.count first) part.gives refl,
      (
        c.in-Err.ensures.fault (ap Err is),
        first-part g.F.Follower.follow c.args.bytes.items c.args.parts part.count c.requires.document.found part.within,
      ),
    ))
    (λ is. (
      record { read = c.args.bytes.items; written = [] },
      Converses-kept g.F.Follower.follow _ _ _ (ap g.S.Stream.talk (c.in-Err.ensures.nothing (ap Err is))),
      whole-nothing g.F.Follower.follow c.args.bytes.items,
    ))

pub returns-in-Some : goal.returns-in-Some
returns-in-Some g c =
    let first : List ℕ = g.F.Follower.follow.first_text (document_in c.args.bytes.items c.args.parts) in
    let opened = c.follow_opened.ensures in
    let given : Gives (g.S.Stream.talk c.args.stream.now) (g.S.Stream.talk c.open_document.new.stream) first =
    subst (λ (b : List ℕ). Gives (g.S.Stream.talk c.args.stream.now) (g.S.Stream.talk c.open_document.new.stream) (g.F.Follower.follow.first_text (document_in b c.args.parts))) c.deref.ensures.value c.in-Ok.ensures.given in (
      opened.0,
      Converses-append g.F.Follower.follow _ _ _ _ _ opened.0
          (Converses-gives g.F.Follower.follow _ _ c.args.bytes.items [] first first given refl) opened.1,
      ends-after g.F.Follower.follow _ _ _ _ opened.0 c.follow_opened.result c.in-Ok.ensures.counted opened.2,
    )

pub returns-in-None : goal.returns-in-None
returns-in-None g c =
    let first : List ℕ = g.F.Follower.follow.first_text (document_in c.args.bytes.items c.args.parts) in
    let refuses = subst (λ (b : List ℕ). g.F.Follower.follow.accepts (document_in b c.args.parts) ≡ false) c.deref.ensures.value
    (c.in-Ok.ensures.refused (subst (λ o. IsNone o) (sym c.in-None.is) refl)) in
    let given : Gives (g.S.Stream.talk c.args.stream.now) (g.S.Stream.talk c.open_document.new.stream) first =
    subst (λ (b : List ℕ). Gives (g.S.Stream.talk c.args.stream.now) (g.S.Stream.talk c.open_document.new.stream) (g.F.Follower.follow.first_text (document_in b c.args.parts))) c.deref.ensures.value c.in-Ok.ensures.given in (
      record { read = c.args.bytes.items; written = first },
      Converses-gives g.F.Follower.follow _ _ c.args.bytes.items [] first first given refl,
      refused refl (record { parts = c.args.parts; found = c.requires.document.found; few = c.requires.document.few; short = c.requires.short; judged = refuses }) (sym (refused-text g.F.Follower.follow c.args.bytes.items c.args.parts c.requires.document.found refuses)),
    )
