-- What contracts see of sources and sinks in memory.
use Rattle.std.specs.Prelude.{◌≡◌, ◌<◌, ℕ, List, length}

-- a source that fails at listed calls: the bytes still to come, the most that a call moves,
-- the numbers of the calls that fail, the calls so far and the faults so far
pub record FailingSource : Type 0 where
  pub left : List ℕ
  pub chunk : ℕ
  pub failing : List ℕ
  pub calls : ℕ
  pub faults : ℕ

-- bytes taken in, and how many more fit
pub record Filled : Type 0 where
  pub bytes : List ℕ
  pub room : ℕ

-- a sink that fails at listed calls and where it is full
pub record FailingSink : Type 0 where
  pub written : List ℕ
  pub room : ℕ
  pub chunk : ℕ
  pub failing : List ℕ
  pub calls : ℕ
  pub faults : ℕ

-- a sink that fails only where it is full
pub record FillingSink : Type 0 where
  pub written : List ℕ
  pub room : ℕ
  pub faults : ℕ

-- there is a byte to write, and no room for it
pub record IsFull (room : ℕ) (bytes : List ℕ) : Type 0 where
  pub no_room : room ≡ 0
  pub some : 0 < length bytes
