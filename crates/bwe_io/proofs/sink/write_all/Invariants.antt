use Rattle.std.proofs.Common.{◌≡◌, ◌≤◌, ℕ, length, take, drop}
use Rattle.std.specs.Io.KnownBytes.{Appends}
use Rattle.bwe_io.proofs.sink.write_all.Given as goal

-- so many bytes have been written, and the others are left
abbrev pub invariant-loop-rest : goal.invariant-loop-rest
invariant-loop-rest g l =
    (g.K.Sink.faults l.initial.sink ≤ g.K.Sink.faults l.sink)
    × ((count : ℕ) × (count ≤ length l.bytes) × (l.rest ≡ drop count l.bytes)
    × Appends (g.K.Sink.written l.initial.sink) (g.K.Sink.written l.sink) (take count l.bytes))

abbrev pub decreases-loop-rest : goal.decreases-loop-rest
decreases-loop-rest g l = length l.rest
