use Rattle.std.proofs.Common.{◌<◌, ℕ, List, length}
use Rattle.live_stream.specs.Talk.{NeverFall}
use Rattle.live_run.specs.Answers.{IsBefore, IsUpTo}
use Rattle.live_run.specs.Conversation.{Converses, Passed}
use Rattle.live_run.proofs.behind.follow_lines.Given as goal

abbrev pub invariant-pieces : goal.invariant-pieces
invariant-pieces g l =
    (0 < length l.buffer)
    × NeverFall (g.S.Stream.faults l.initial.stream) (g.S.Stream.faults l.stream)
    × ((front document : List ℕ) (before : Passed) → IsBefore g.F.Follower.follow front document
    → IsUpTo g.F.Follower.follow g.F.Follower.has_followed front document l.initial.follower l.initial.cutter before
    → (now : Passed) × IsUpTo g.F.Follower.follow g.F.Follower.has_followed front document l.follower l.cutter now
    × Converses g.F.Follower.follow (g.S.Stream.talk l.initial.stream) (g.S.Stream.talk l.stream) before now)
