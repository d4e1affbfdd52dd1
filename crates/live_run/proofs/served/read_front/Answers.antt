use Rattle.std.proofs.Common.{◌≡◌, ◌∙◌, List, [], ◌++◌, ℕ, append-nil, ap, arith, subst, sym, take}
use Rattle.two_part.specs.TwoPart.{parts_of}
use Rattle.live_run.specs.Conversation.{Converses}
use Rattle.live_run.specs.Front.{IsFront}
use Rattle.live_run.proofs.Conversing.{Converses-append, Converses-reads, Converses-still}
use Rattle.live_run.proofs.Counts.{HasRisen-after, NeverFall-append}
use Rattle.live_run.proofs.Steps.{called-none, whole-nothing}
use Rattle.live_run.proofs.served.read_front.Goals as goal

pub returns-in-Err-clause-stopped : goal.returns-in-Err-clause-stopped
returns-in-Err-clause-stopped g c = λ follow. (
  record { read = c.pieces.bytes.items; written = [] },
  Converses-append follow _ _ _ _ _ _ (c.pieces.invariant.2 follow) (Converses-still follow _ _ (record { read = c.pieces.bytes.items; written = [] }) c.in-Err.ensures.nothing),
  (
    HasRisen-after _ _ _ c.pieces.invariant.1.reads c.in-Err.ensures.failed,
    sym (called-none follow c.pieces.bytes.items (ap parts_of (sym c.deref.ensures.value) ∙ c.in-Open.ensures.0)),
  ),
)

pub returns-then-count-eq0-clause-read : goal.returns-then-count-eq0-clause-read
returns-then-count-eq0-clause-read g c = λ follow.
    let none : c.pieces.bytes.items ++ take c.in-Ok.count c.read.new.buffer ≡ c.pieces.bytes.items =
    ap (λ n. c.pieces.bytes.items ++ take n c.read.new.buffer) c.if-count-eq0.true ∙ append-nil c.pieces.bytes.items in
    Converses-append follow _ _ _ _ _ _ (c.pieces.invariant.2 follow)
    (subst (λ (read : List ℕ). Converses follow (g.S.Stream.talk c.pieces.stream) (g.S.Stream.talk c.read.new.self) (record { read = c.pieces.bytes.items; written = [] }) (record { read = read; written = [] })) none
    (Converses-reads follow _ _ c.pieces.bytes.items [] (take c.in-Ok.count c.read.new.buffer) (sym (called-none follow c.pieces.bytes.items (ap parts_of (sym c.deref.ensures.value) ∙ c.in-Open.ensures.0))) c.in-Ok.ensures.took))

pub returns-in-Err-extend_from_slice-clause-stopped : goal.returns-in-Err-extend_from_slice-clause-stopped
returns-in-Err-extend_from_slice-clause-stopped g c = λ follow. (
  record { read = c.pieces.bytes.items ++ take c.in-Ok.count c.read.new.buffer; written = [] },
  Converses-append follow _ _ _ _ _ _ (c.pieces.invariant.2 follow)
      (Converses-reads follow _ _ c.pieces.bytes.items [] (take c.in-Ok.count c.read.new.buffer) (sym (called-none follow c.pieces.bytes.items (ap parts_of (sym c.deref.ensures.value) ∙ c.in-Open.ensures.0))) c.in-Ok.ensures.took),
  whole-nothing follow (c.pieces.bytes.items ++ take c.in-Ok.count c.read.new.buffer),
)

pub returns-clause-stopped : goal.returns-clause-stopped
returns-clause-stopped g c = λ follow. (
  record { read = c.pieces.bytes.items; written = [] },
  c.pieces.invariant.2 follow,
  whole-nothing follow c.pieces.bytes.items,
)

pub pieces-preserved : goal.pieces-preserved
pieces-preserved g c = (
  omega (arith, c.pieces.invariant.0),
  NeverFall-append _ _ _ c.pieces.invariant.1 c.in-Ok.ensures.counted,
  λ follow. Converses-append follow _ _ _ _ _ _ (c.pieces.invariant.2 follow)
      (subst (λ (read : List ℕ). Converses follow (g.S.Stream.talk c.pieces.stream) (g.S.Stream.talk c.read.new.self) (record { read = c.pieces.bytes.items; written = [] }) (record { read = read; written = [] }))
      (sym c.in-Ok-extend_from_slice.ensures.items)
      (Converses-reads follow _ _ c.pieces.bytes.items [] (take c.in-Ok.count c.read.new.buffer) (sym (called-none follow c.pieces.bytes.items (ap parts_of (sym c.deref.ensures.value) ∙ c.in-Open.ensures.0))) c.in-Ok.ensures.took)),
)

pub returns-in_default-clause-front : goal.returns-in_default-clause-front
returns-in_default-clause-front g c = subst (λ (bytes : List ℕ). IsFront bytes c.front_of.result) c.deref.ensures.value c.front_of.ensures
