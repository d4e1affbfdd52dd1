-- Counts of faults over several calls.
use Rattle.std.proofs.Common.{inl, inr, ℕ, ◌≤◌, arith}
use Rattle.bwe_io.specs.Faults.{HasRisen}
use Rattle.live_stream.specs.Talk.{Faults, NeverFall}

pub NeverFall-same : (a : Faults) → NeverFall a a
NeverFall-same a = record { reads = omega arith; writes = omega arith }

pub NeverFall-append : (a b c : Faults) → NeverFall a b → NeverFall b c → NeverFall a c
NeverFall-append a b c first second = record {
  reads = omega (arith, first.reads, second.reads);
  writes = omega (arith, first.writes, second.writes);
}

-- a count that never fell before has risen over both
pub HasRisen-after : (a b c : ℕ) → a ≤ b → HasRisen b c → HasRisen a c
HasRisen-after a b c never (inl risen) = inl (omega (arith, never, risen))
HasRisen-after a b c never (inr last) = inr last
