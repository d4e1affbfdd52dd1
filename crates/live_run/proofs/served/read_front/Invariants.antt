use Rattle.std.proofs.Common.{◌<◌, [], length}
use Rattle.live_stream.specs.Talk.{NeverFall}
use Rattle.live_run.specs.Conversation.{Converses}
use Rattle.live_run.specs.Follow.{Follow}
use Rattle.live_run.proofs.served.read_front.Given as goal

abbrev pub invariant-pieces : goal.invariant-pieces
invariant-pieces g l =
    (0 < length l.buffer)
    × NeverFall (g.S.Stream.faults l.initial.stream) (g.S.Stream.faults l.stream)
    × ((follow : Follow) → Converses follow (g.S.Stream.talk l.initial.stream) (g.S.Stream.talk l.stream)
    (record { read = []; written = [] }) (record { read = l.bytes.items; written = [] }))
