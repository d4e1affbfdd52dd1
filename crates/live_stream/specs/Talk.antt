-- What passes over one object that reads and writes, in the order in which it passed.
use Rattle.std.specs.Prelude.{◌≡◌, ℕ, ◌≤◌, List, [], ◌∷◌, ◌++◌, length, take, Option, Some, None, ⊤}

-- bytes that were taken, none of them at the end of input; or bytes that were given
pub data Event : Type 0 where
  Took : List ℕ → Event
  Gave : List ℕ → Event

-- what was taken, one piece behind the other
abbrev pub taken : List Event → List ℕ
taken [] = []
taken (Took bytes ∷ events) = bytes ++ taken events
taken (Gave bytes ∷ events) = taken events

-- what was given, one piece behind the other
abbrev pub given : List Event → List ℕ
given [] = []
given (Took bytes ∷ events) = given events
given (Gave bytes ∷ events) = bytes ++ given events

-- what is still to come, and all that has happened so far, in its order
pub record Talk : Type 0 where
  pub left : List ℕ
  pub events : List Event

-- These events happened, where the object tells them, as it always does or never does: they stand
-- behind the earlier ones, and what they took came from the front.
abbrev pub Goes : Option Talk → Option Talk → List Event → Type 0
Goes None None events = ⊤
Goes None (Some after) events = ⊥
Goes (Some before) None events = ⊥
Goes (Some before) (Some after) events =
    (after.events ≡ before.events ++ events) × (before.left ≡ taken events ++ after.left)

-- a text was given; an empty one is no event
abbrev pub gives : List ℕ → List Event
gives [] = []
gives (byte ∷ bytes) = Gave (byte ∷ bytes) ∷ []

-- some first bytes of a text were given, and no more
abbrev pub GivesPrefix : Option Talk → Option Talk → List ℕ → Type 0
GivesPrefix before after text = (count : ℕ) × (count ≤ length text)
    × Goes before after (gives (take count text))

-- nothing is to come
abbrev pub IsOver : Option Talk → Type 0
IsOver None = ⊤
IsOver (Some talk) = talk.left ≡ []

-- how often a read and a write failed
pub record Faults : Type 0 where
  pub reads : ℕ
  pub writes : ℕ

pub record NeverFall (before after : Faults) : Type 0 where
  pub reads : before.reads ≤ after.reads
  pub writes : before.writes ≤ after.writes
