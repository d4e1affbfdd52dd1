use Rattle.std.proofs.Common.{ℕ, List, ◌++◌, take}
use Rattle.live_stream.specs.Talk.{NeverFall}
use Rattle.live_run.specs.Answers.{AnswersPiece, IsBehind}
use Rattle.live_run.proofs.line.answer_piece.Given as goal

-- the first bytes of the piece have been gone over
abbrev pub invariant-loop-byte : goal.invariant-loop-byte
invariant-loop-byte g l =
    NeverFall (g.S.Stream.faults l.initial.stream) (g.S.Stream.faults l.stream)
    × ((document behind : List ℕ) → IsBehind g.F.Follower.has_followed document l.initial.follower l.initial.cutter behind
    → IsBehind g.F.Follower.has_followed document l.follower l.cutter (behind ++ take l.byte-index l.piece)
    × AnswersPiece g.F.Follower.follow document (g.S.Stream.talk l.initial.stream) (g.S.Stream.talk l.stream)
    behind (behind ++ take l.byte-index l.piece))
