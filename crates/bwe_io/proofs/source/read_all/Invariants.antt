use Rattle.std.proofs.Common.{◌+◌, ◌-◌, ◌<◌, ◌≤◌, vec_len}
use Rattle.std.specs.Io.KnownBytes.{Consumes}
use Rattle.bwe_io.proofs.source.read_all.Given as goal

abbrev pub invariant-loop-bytes : goal.invariant-loop-bytes
invariant-loop-bytes g l =
    (vec_len l.bytes ≤ l.limit + 1)
    × (0 < vec_len l.chunk)
    × (g.S.Source.faults l.initial.source ≤ g.S.Source.faults l.source)
    × Consumes (g.S.Source.left l.initial.source) (g.S.Source.left l.source) l.bytes.items

abbrev pub decreases-loop-bytes : goal.decreases-loop-bytes
decreases-loop-bytes g l = l.limit + 1 - vec_len l.bytes
