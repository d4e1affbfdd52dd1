use Rattle.std.proofs.Common.{◌+◌, ◌<◌, List, [], ◌∷◌, ◌++◌, ℕ, length, get_or, take, drop, subst, arith}
use Rattle.live_run.specs.Answers.{AnswersPart, AnswersPiece, IsBehind}
use Rattle.live_run.proofs.Counts.{NeverFall-append}
use Rattle.live_run.proofs.Pieces.{next-byte, part-append, piece-append, rest-of}
use Rattle.live_run.proofs.line.answer_piece.Goals as goal

pub returns-in-Err-clause-partly : goal.returns-in-Err-clause-partly
returns-in-Err-clause-partly g c = λ is document behind at.
    let done = c.loop-byte.invariant.1 document behind at in
    let piece = c.args.piece.now in
    let k = c.loop-byte.byte-index in
    let l : k < length piece = omega (arith, c.loop-byte-test.true) in
    let now : List ℕ = behind ++ take k piece in
    subst (λ whole. AnswersPart g.F.Follower.follow document (g.S.Stream.talk c.args.stream.now) (g.S.Stream.talk c.answer_byte.new.stream) behind whole)
    (rest-of behind piece k l)
    (part-append g.F.Follower.follow document (g.S.Stream.talk c.args.stream.now) (g.S.Stream.talk c.loop-byte.stream) (g.S.Stream.talk c.answer_byte.new.stream)
    behind now (now ++ get_or piece k 0 ∷ []) (drop (k + 1) piece) done.1 (c.in-Err.ensures.partly is document now done.0))

pub loop-byte-preserved : goal.loop-byte-preserved
loop-byte-preserved g c = (
  NeverFall-append _ _ _ c.loop-byte.invariant.0 c.answer_byte.ensures.counted,
  λ document behind at.
      let done = c.loop-byte.invariant.1 document behind at in
      let piece = c.args.piece.now in
      let k = c.loop-byte.byte-index in
      let l : k < length piece = omega (arith, c.loop-byte-test.true) in
      let now : List ℕ = behind ++ take k piece in (
        subst (λ later. IsBehind g.F.Follower.has_followed document c.answer_byte.new.follower c.answer_byte.new.cutter later) (next-byte behind piece k l)
            (c.in-Ok.ensures.behind document now done.0),
        subst (λ later. AnswersPiece g.F.Follower.follow document (g.S.Stream.talk c.args.stream.now) (g.S.Stream.talk c.answer_byte.new.stream) behind later) (next-byte behind piece k l)
            (piece-append g.F.Follower.follow document (g.S.Stream.talk c.args.stream.now) (g.S.Stream.talk c.loop-byte.stream) (g.S.Stream.talk c.answer_byte.new.stream)
            behind now (now ++ get_or piece k 0 ∷ []) done.1 (c.in-Ok.ensures.given document now done.0)),
      ),
)
