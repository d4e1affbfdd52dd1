use Rattle.std.proofs.Common.{arith}
use Rattle.bwe_io.proofs.Known.{TakesAtMost-more}
use Rattle.bwe_io.proofs.source.read_all.Goals as goal

pub returns-in_err-extend_from_slice-clause-memory_within :
    goal.returns-in_err-extend_from_slice-clause-memory_within
returns-in_err-extend_from_slice-clause-memory_within g c _ =
    TakesAtMost-more _ _ _ c.loop-bytes.bytes.items c.read_part.new.chunk c.in_ok-count.count _
    c.loop-bytes.invariant.3 c.in_ok-count.ensures.bytes.0 c.in_ok-count.ensures.fits
    (omega (arith, c.in_ok-count.ensures.room, c.loop-bytes.bytes.ok.0))
