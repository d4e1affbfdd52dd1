use Rattle.std.proofs.Common.{List, ℕ, ◌++◌, Err, ap, sym, arith, take}
use Rattle.std.proofs.lemmas.Bool.{ltb-false}
use Rattle.live_run.specs.Conversation.{Converses, Passed}
use Rattle.live_run.specs.Endings.{HasStopped}
use Rattle.live_run.proofs.Counts.{HasRisen-after}
use Rattle.live_run.proofs.Steps.{IsOver-gives, calls, longer, part-due, part-whole, reads-gives, stop-cases}
use Rattle.live_run.proofs.behind.next_lines.Goals as goal

pub returns-in-Ok-answer_piece-clause-passed : goal.returns-in-Ok-answer_piece-clause-passed
returns-in-Ok-answer_piece-clause-passed g c = λ front document before bef upto.
    let piece : List ℕ = take c.in-Ok.count c.read.new.buffer in
    let done = c.in-Ok-answer_piece.ensures.given document upto.behind upto.is_behind in (
      record { read = before.read ++ piece; written = before.written ++ done.text },
      reads-gives g.F.Follower.follow front document bef _ _ _ before piece done.text upto.written_so c.in-Ok.ensures.took done.gives,
      (
        λ end. IsOver-gives _ _ done.text done.gives (c.in-Ok.ensures.end (omega (arith, ltb-false 0 c.in-Ok.count end))),
        record {
          behind = upto.behind ++ piece;
          is_behind = c.in-Ok-answer_piece.ensures.behind document upto.behind upto.is_behind;
          read_so = longer g.F.Follower.follow front document bef before upto.behind piece upto.read_so upto.written_so piece;
          written_so = sym (calls g.F.Follower.follow front document bef before upto.behind piece upto.read_so upto.written_so piece done.text done.brings);
        },
      ),
    )

pub returns-in-Err-answer_piece-clause-passed : goal.returns-in-Err-answer_piece-clause-passed
returns-in-Err-answer_piece-clause-passed g c = λ front document before bef upto.
    let piece : List ℕ = take c.in-Ok.count c.read.new.buffer in
    stop-cases
    (λ stop. (after : Passed) × Converses g.F.Follower.follow (g.S.Stream.talk c.args.stream.now) (g.S.Stream.talk c.answer_piece.new.stream) before after
    × HasStopped g.F.Follower.follow 0 (g.S.Stream.faults c.args.stream.now) (g.S.Stream.faults c.answer_piece.new.stream) after stop)
    c.in-Err-answer_piece.stop
    (λ is. absurd (c.in-Err-answer_piece.ensures.asks (ap Err is)))
    (λ is.
    let part = c.in-Err-answer_piece.ensures.partly (ap Err is) document upto.behind upto.is_behind in
    let text : List ℕ = take part.gives.count part.text in (
      record { read = before.read ++ piece; written = before.written ++ text },
      reads-gives g.F.Follower.follow front document bef _ _ _ before piece text upto.written_so c.in-Ok.ensures.took part.gives.gives,
      (
        HasRisen-after _ _ _ c.in-Ok.ensures.counted.writes (c.in-Err-answer_piece.ensures.fault (ap Err is)),
        part-due g.F.Follower.follow front document bef before upto.behind piece upto.read_so upto.written_so part.gives.count part.text part.gives.within part.brings,
      ),
    ))
    (λ is.
    let whole = c.in-Err-answer_piece.ensures.whole (ap Err is) document upto.behind upto.is_behind in (
      record { read = before.read ++ piece; written = before.written ++ whole.2.text },
      reads-gives g.F.Follower.follow front document bef _ _ _ before piece whole.2.text upto.written_so c.in-Ok.ensures.took whole.2.gives,
      part-whole g.F.Follower.follow front document bef before upto.behind piece upto.read_so upto.written_so whole.0 whole.2.text whole.1 whole.2.brings,
    ))
