-- What contracts see of streams.
use Rattle.std.specs.Prelude.{ℕ, List, Option}
use Rattle.live_stream.specs.Talk as talk
use Rattle.live_stream.specs.Talk.{Talk, Faults}
use Rattle.live_stream.specs.declared.event.Event.{Event}
use Rattle.live_stream.specs.declared.event.Event.TheVariants.{Took, Gave}

-- what the recorded event says
abbrev pub event_of : Event → talk.Event
event_of (Took bytes) = talk.Took bytes.items
event_of (Gave bytes) = talk.Gave bytes.items

-- a stream in memory: what is to come and what has happened, and its faults
pub record MemoryTalk : Type 0 where
  pub talk : Talk
  pub faults : Faults

-- a reader and a writer of std: the bytes that are known of each, and the faults so far
pub record StdTalk : Type 0 where
  pub unread : Option (List ℕ)
  pub written : Option (List ℕ)
  pub faults : Faults
