use Rattle.std.proofs.Common.{◌≡◌, ◌-◌, List, [], ◌++◌, ℕ, Ok, Err, ap, refl, sym, length, take, drop, arith}
use Rattle.live_run.specs.Conversation.{Converses, Passed}
use Rattle.live_run.specs.Endings.{HasStopped}
use Rattle.two_part.specs.TwoPart.{document_in}
use Rattle.live_run.proofs.Conversing.{Converses-gives, Converses-nothing}
use Rattle.live_run.proofs.Ends.{before-opened, behind-nothing, behind-opened, first-text, goes-behind, opened-due, opened-whole}
use Rattle.live_run.proofs.Steps.{stop-cases}
use Rattle.live_run.proofs.served.follow_opened.Goals as goal

pub returns-in-Err : goal.returns-in-Err
returns-in-Err g c =
    let document : List ℕ = document_in c.args.bytes.items c.args.parts in
    let front : List ℕ = take c.args.parts.end c.args.bytes.items in
    let bef = before-opened g.F.Follower.follow c.args.bytes.items c.args.parts c.requires.document.found c.requires.accepted in (
      record { read = c.args.bytes.items; written = g.F.Follower.follow.first_text document },
      Converses-nothing g.F.Follower.follow _ _,
      record { count = c.args.parts.end; within = omega (arith, c.requires.document.end, c.args.bytes.ok.0); written_so = sym (first-text g.F.Follower.follow front document bef) },
    )

pub returns-in-Err-answer_piece : goal.returns-in-Err-answer_piece
returns-in-Err-answer_piece g c =
    let document : List ℕ = document_in c.args.bytes.items c.args.parts in
    let front : List ℕ = take c.args.parts.end c.args.bytes.items in
    let first : List ℕ = g.F.Follower.follow.first_text document in
    let bef = before-opened g.F.Follower.follow c.args.bytes.items c.args.parts c.requires.document.found c.requires.accepted in
    let b : List ℕ = c.deref.result.now in
    let piece : List ℕ = take (length b - c.args.parts.end) (drop c.args.parts.end b) in
    let same : c.args.bytes.items ≡ front ++ piece =
    behind-opened g.F.Follower.follow c.args.bytes.items c.args.parts c.requires.document.found c.requires.accepted b c.deref.ensures.value in
    let at = behind-nothing g.F.Follower.has_followed document c.args.follower c.in-Ok.cutter c.requires.followed c.in-Ok.ensures in
    stop-cases
    (λ stop. (after : Passed) × Converses g.F.Follower.follow (g.S.Stream.talk c.args.stream.now) (g.S.Stream.talk c.answer_piece.new.stream) (record { read = c.args.bytes.items; written = first }) after
    × HasStopped g.F.Follower.follow 0 (g.S.Stream.faults c.args.stream.now) (g.S.Stream.faults c.answer_piece.new.stream) after stop)
    c.in-Err-answer_piece.stop
    (λ is. absurd (c.in-Err-answer_piece.ensures.asks (ap Err is)))
    (λ is.
    let part = c.in-Err-answer_piece.ensures.partly (ap Err is) document [] at in
    let text : List ℕ = take part.gives.count part.text in (
      record { read = c.args.bytes.items; written = first ++ text },
      Converses-gives g.F.Follower.follow _ _ c.args.bytes.items first text (first ++ text) part.gives.gives refl,
      (
        c.in-Err-answer_piece.ensures.fault (ap Err is),
        opened-due g.F.Follower.follow front document bef c.args.bytes.items piece part.text part.gives.count same part.gives.within part.brings,
      ),
    ))
    (λ is.
    let whole = c.in-Err-answer_piece.ensures.whole (ap Err is) document [] at in (
      record { read = c.args.bytes.items; written = first ++ whole.2.text },
      Converses-gives g.F.Follower.follow _ _ c.args.bytes.items first whole.2.text (first ++ whole.2.text) whole.2.gives refl,
      opened-whole g.F.Follower.follow front document bef c.args.bytes.items piece whole.2.text whole.0 same whole.1 whole.2.brings,
    ))

pub returns-in-Ok-follow_lines : goal.returns-in-Ok-follow_lines
returns-in-Ok-follow_lines g c =
    let document : List ℕ = document_in c.args.bytes.items c.args.parts in
    let front : List ℕ = take c.args.parts.end c.args.bytes.items in
    let found = c.requires.document.found in
    let read : List ℕ = c.deref.result.now in
    let nothing = behind-nothing g.F.Follower.has_followed document c.args.follower c.in-Ok.cutter c.requires.followed c.in-Ok.ensures in
    goes-behind g.F.Follower.follow c.args.bytes.items c.args.parts found c.requires.accepted g.F.Follower.has_followed c.answer_piece.new.follower c.answer_piece.new.cutter _ _ _ _ _ _
    (take (length read - c.args.parts.end) (drop c.args.parts.end read)) (Ok 0) c.requires.document.few c.requires.short
    (behind-opened g.F.Follower.follow c.args.bytes.items c.args.parts found c.requires.accepted read c.deref.ensures.value)
    (c.in-Ok-answer_piece.ensures.behind document [] nothing) (c.in-Ok-answer_piece.ensures.given document [] nothing) c.in-Ok-answer_piece.ensures.counted
    (λ passed upto. let last = c.in-Ok-follow_lines.ensures front document passed (before-opened g.F.Follower.follow c.args.bytes.items c.args.parts found c.requires.accepted) upto in (last.0, last.1, (refl, last.2.0, last.2.1)))

pub returns : goal.returns
returns g c =
    let document : List ℕ = document_in c.args.bytes.items c.args.parts in
    let front : List ℕ = take c.args.parts.end c.args.bytes.items in
    let found = c.requires.document.found in
    let read : List ℕ = c.deref.result.now in
    let nothing = behind-nothing g.F.Follower.has_followed document c.args.follower c.in-Ok.cutter c.requires.followed c.in-Ok.ensures in
    goes-behind g.F.Follower.follow c.args.bytes.items c.args.parts found c.requires.accepted g.F.Follower.has_followed c.answer_piece.new.follower c.answer_piece.new.cutter _ _ _ _ _ _
    (take (length read - c.args.parts.end) (drop c.args.parts.end read)) (Err c.in-Err-follow_lines.stop) c.requires.document.few c.requires.short
    (behind-opened g.F.Follower.follow c.args.bytes.items c.args.parts found c.requires.accepted read c.deref.ensures.value)
    (c.in-Ok-answer_piece.ensures.behind document [] nothing) (c.in-Ok-answer_piece.ensures.given document [] nothing) c.in-Ok-answer_piece.ensures.counted
    (λ passed upto. c.in-Err-follow_lines.ensures front document passed (before-opened g.F.Follower.follow c.args.bytes.items c.args.parts found c.requires.accepted) upto)
