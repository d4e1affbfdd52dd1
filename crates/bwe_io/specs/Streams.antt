-- What contracts see of a stream of std.
use Rattle.std.specs.Prelude.{ℕ, List, Option}

-- the bytes that are known of it, and the faults so far
pub record CountedStream : Type 0 where
  pub known : Option (List ℕ)
  pub faults : ℕ
