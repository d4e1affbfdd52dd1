-- What a service has read and written, and that it was never late.
use Rattle.std.specs.Prelude.{◌≡◌, ℕ, List, [], ◌∷◌, ◌++◌, ⊤, Option}
use Rattle.live_stream.specs.Talk.{Event, Took, Gave, Talk, Goes, taken, given}
use Rattle.live_run.specs.Follow.{Follow, called_for}

-- After these bytes were read and this text was written: whenever more was asked for, all that the
-- bytes so far call for had been written.
abbrev pub IsLive : Follow → List ℕ → List ℕ → List Event → Type 0
IsLive follow read written [] = ⊤
IsLive follow read written (Took bytes ∷ events) =
    (written ≡ called_for follow read) × IsLive follow (read ++ bytes) written events
IsLive follow read written (Gave bytes ∷ events) = IsLive follow read (written ++ bytes) events

-- the bytes read and the text written
pub record Passed : Type 0 where
  pub read : List ℕ
  pub written : List ℕ

-- a stream went from here to there, and so did what has passed over it; and it was live all the way
pub record Converses (follow : Follow) (talk talk_after : Option Talk) (before after : Passed)
    : Type 0 where
  pub events : List Event
  pub goes : Goes talk talk_after events
  pub is_live : IsLive follow before.read before.written events
  pub read_so : after.read ≡ before.read ++ taken events
  pub written_so : after.written ≡ before.written ++ given events
