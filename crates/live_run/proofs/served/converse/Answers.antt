use Rattle.live_run.specs.Front.{HasNoDocument, IsFront, SaysTooLong}
use Rattle.std.proofs.Common.{◌≡◌, ◌∙◌, List, [], ℕ, None, ap, append-nil, inl, inr, refl, subst, sym}
use Rattle.live_run.specs.declared.front.Front.TheVariants.{Open, Missing}
use Rattle.live_run.specs.Endings.{GoesOn, IsDue, far_too_long, front_too_long, no_document, no_front}
use Rattle.live_run.proofs.Conversing.{Converses-append, Converses-nothing}
use Rattle.two_part.specs.TwoPart.{parts_of}
use Rattle.live_run.proofs.Ends.{ends-after, refused-line}
use Rattle.live_run.proofs.Steps.{IsOver-gives, whole-nothing}
use Rattle.live_run.proofs.served.converse.Goals as goal

pub returns-in-Err : goal.returns-in-Err
returns-in-Err g c = (
  record { read = []; written = [] },
  Converses-nothing g.F.Follower.follow _ _,
  whole-nothing g.F.Follower.follow [],
)

pub returns-in-Err-read_front : goal.returns-in-Err-read_front
returns-in-Err-read_front g c = c.in-Err-read_front.ensures.stopped g.F.Follower.follow

pub returns-in-Found : goal.returns-in-Found
returns-in-Found g c =
    let followed = c.serve_document.ensures in (
      followed.0,
      Converses-append g.F.Follower.follow _ _ _ _ _ followed.0 (c.in-Ok-read_front.ensures.read g.F.Follower.follow) followed.1,
      ends-after g.F.Follower.follow _ _ _ _ followed.0 c.serve_document.result c.in-Ok-read_front.ensures.counted followed.2,
    )

pub refuse_open-requires-clause-open : goal.refuse_open-requires-clause-open
refuse_open-requires-clause-open g c =
    let bytes : List ℕ = c.in-Ok-read_front.read.0.items in
    subst (λ (b : List ℕ). IsFront b Open) (sym c.deref.ensures.value) (subst (λ front. IsFront bytes front) c.in-Open.is c.in-Ok-read_front.ensures.front)

pub refuse_open-requires-clause-end : goal.refuse_open-requires-clause-end
refuse_open-requires-clause-end g c = c.in-Ok-read_front.ensures.end c.in-Open.is

pub returns-in-Open : goal.returns-in-Open
returns-in-Open g c =
    let bytes : List ℕ = c.in-Ok-read_front.read.0.items in
    let refused = subst (λ (b : List ℕ). GoesOn g.F.Follower.follow (g.S.Stream.talk c.read_front.new.stream) (g.S.Stream.talk c.refuse_open.new.stream) (g.S.Stream.faults c.read_front.new.stream) (g.S.Stream.faults c.refuse_open.new.stream) (record { read = b; written = [] }) c.refuse_open.result)
    c.deref.ensures.value (c.refuse_open.ensures g.F.Follower.follow) in (
      refused.0,
      Converses-append g.F.Follower.follow _ _ _ _ _ refused.0 (c.in-Ok-read_front.ensures.read g.F.Follower.follow) refused.1,
      ends-after g.F.Follower.follow _ _ _ _ refused.0 c.refuse_open.result c.in-Ok-read_front.ensures.counted refused.2,
    )

pub returns-in-Missing : goal.returns-in-Missing
returns-in-Missing g c =
    let bytes : List ℕ = c.in-Ok-read_front.read.0.items in
    let line : List ℕ = c.as_bytes.result.now in
    let front : IsFront bytes Missing = subst (λ front. IsFront bytes front) c.in-Missing.is c.in-Ok-read_front.ensures.front in
    let hopeless : HasNoDocument bytes = front.0 in
    let none : parts_of bytes ≡ None = ap parts_of (sym (append-nil bytes)) ∙ hopeless [] in
    refused-line g.F.Follower.follow _ _ _ _ _ _ bytes line 3 c.refuse.result c.in-Ok-read_front.ensures.counted (c.in-Ok-read_front.ensures.read g.F.Follower.follow)
    c.refuse.ensures.given c.refuse.ensures.partly
    (subst (λ (l : List ℕ). IsDue g.F.Follower.follow 0 bytes l) (sym c.as_bytes.ensures.value) (no_front none))
    (λ gives. no_document refl none front.1 (inr hopeless) c.as_bytes.ensures.value)

pub returns : goal.returns
returns g c =
    let bytes : List ℕ = c.in-Ok-read_front.read.0.items in
    let line : List ℕ = c.as_bytes-in-TooLong.result.now in
    let says : SaysTooLong bytes = subst (λ front. IsFront bytes front) c.in-TooLong.is c.in-Ok-read_front.ensures.front in
    refused-line g.F.Follower.follow _ _ _ _ _ _ bytes line 8 c.refuse-in-TooLong.result c.in-Ok-read_front.ensures.counted (c.in-Ok-read_front.ensures.read g.F.Follower.follow)
    c.refuse-in-TooLong.ensures.given c.refuse-in-TooLong.ensures.partly
    (subst (λ (l : List ℕ). IsDue g.F.Follower.follow 0 bytes l) (sym c.as_bytes-in-TooLong.ensures.value) (front_too_long says))
    (λ gives. far_too_long refl says c.as_bytes-in-TooLong.ensures.value)
