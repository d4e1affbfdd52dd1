use Rattle.std.proofs.Common.{◌∙◌, [], ◌++◌, None, Err, ap, refl, sym, append-nil, take}
use Rattle.live_run.specs.Conversation.{Converses, Passed}
use Rattle.live_run.specs.Endings.{HasStopped}
use Rattle.live_run.proofs.Conversing.{Converses-gives, Converses-nothing}
use Rattle.live_run.proofs.LinesBehind.{ends-half, ends-whole, lines}
use Rattle.live_run.proofs.Steps.{Converses-kept, IsOver-gives, all-whole, half, half-due, stop-cases}
use Rattle.live_run.proofs.behind.last_line.Goals as goal

pub returns-then-is_empty : goal.returns-then-is_empty
returns-then-is_empty g c = λ front document before bef upto.
    let none : _ = ends-whole g.F.Follower.follow document upto.behind c.args.cutter.now upto.is_behind.held_so (sym c.is_empty.ensures ∙ c.if-is_empty.true) in (
      before,
      Converses-nothing g.F.Follower.follow (g.S.Stream.talk c.args.stream.now) before,
      (
        λ over. over,
        record {
          behind = upto.behind;
          read_so = upto.read_so;
          written_so = sym (append-nil before.written) ∙ sym (half g.F.Follower.follow front document bef before upto.behind [] upto.read_so upto.written_so [] none);
        },
      ),
    )

pub returns-in-Ok : goal.returns-in-Ok
returns-in-Ok g c = λ front document before bef upto.
    let some : _ = ends-half g.F.Follower.follow document upto.behind c.args.cutter.now upto.is_behind.held_so (sym c.is_empty.ensures ∙ c.if-is_empty.false) in
    let text = g.F.Follower.follow.answer_of document (lines upto.behind) None in
    let gives = c.in-Ok.ensures.given document (lines upto.behind) upto.is_behind.followed in (
      record { read = before.read; written = before.written ++ text },
      Converses-gives g.F.Follower.follow _ _ before.read before.written text (before.written ++ text) gives refl,
      (
        IsOver-gives _ _ text gives,
        record {
          behind = upto.behind;
          read_so = upto.read_so;
          written_so = sym (half g.F.Follower.follow front document bef before upto.behind [] upto.read_so upto.written_so text some);
        },
      ),
    )

pub returns-in-Err : goal.returns-in-Err
returns-in-Err g c = λ front document before bef upto.
    let some : _ = ends-half g.F.Follower.follow document upto.behind c.args.cutter.now upto.is_behind.held_so (sym c.is_empty.ensures ∙ c.if-is_empty.false) in
    let text = g.F.Follower.follow.answer_of document (lines upto.behind) None in
    stop-cases
    (λ stop. (after : Passed) × Converses g.F.Follower.follow (g.S.Stream.talk c.args.stream.now) (g.S.Stream.talk c.answer_line.new.stream) before after
    × HasStopped g.F.Follower.follow 0 (g.S.Stream.faults c.args.stream.now) (g.S.Stream.faults c.answer_line.new.stream) after stop)
    c.in-Err.stop
    (λ is. absurd (c.in-Err.ensures.asks (ap Err is)))
    (λ is.
    let part = c.in-Err.ensures.partly (ap Err is) document (lines upto.behind) upto.is_behind.followed in (
      record { read = before.read; written = before.written ++ take part.count text },
      Converses-gives g.F.Follower.follow _ _ before.read before.written (take part.count text) (before.written ++ take part.count text) part.gives refl,
      (
        c.in-Err.ensures.fault (ap Err is),
        half-due g.F.Follower.follow front document bef before upto.behind [] upto.read_so upto.written_so part.count text part.within some,
      ),
    ))
    (λ is. (
      before,
      Converses-kept g.F.Follower.follow _ _ before (ap g.S.Stream.talk (c.in-Err.ensures.nothing (ap Err is))),
      all-whole g.F.Follower.follow before upto.written_so,
    ))
