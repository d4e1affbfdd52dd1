-- The law on all runs of the world.
use Rattle.std.specs.Prelude.{◌≡◌, ℕ, ◌<◌, ◌≤◌, ◌⊎◌, ◌==◌, List, [], ◌∷◌, Option, Some, None, length, if◌then◌else◌}
use Rattle.std.specs.Option.{IfSome}
use Rattle.enforcer_core.specs.declared.event.WorldEvent.{WorldEvent}
use Rattle.enforcer_core.specs.declared.event.WorldEvent.TheVariants as event
use Rattle.enforcer_core.specs.declared.event.WorldAnswer.{WorldAnswer}
use Rattle.enforcer_core.specs.declared.event.WorldAnswer.TheVariants.{Posted, Sent, Took, Older, Acked, Restarted}
use Rattle.enforcer_core.specs.World.{Limits, World, first_world, tasks_at, acked_at, region_at, down_at, limits_in, settled_of, answer_to, world_after, IsMeant}

-- the world after all events; one that was refused as memory ran out leaves the world, and is left
-- out
abbrev pub run : {T : Type 0} → (T → ℕ) → (T → ℕ → ℕ) → World T → List (WorldEvent T) → World T
run covers limit_at world [] = world
run covers limit_at world (event ∷ events) =
    run covers limit_at (world_after covers limit_at world event) events

-- each event is meant for the world that it meets
abbrev pub AreMeant : {F T : Type 0} → (T → F) → (T → ℕ) → (T → ℕ → ℕ) → World T
    → List (WorldEvent T) → Type 0
AreMeant frame covers limit_at world [] = Unit {0}
AreMeant frame covers limit_at world (event ∷ events) =
    IsMeant frame covers world event
    × AreMeant frame covers limit_at (world_after covers limit_at world event) events

-- the event posts the table
abbrev pub Posts : {T : Type 0} → WorldEvent T → T → Type 0
Posts (event.Post posted) table = posted ≡ table
Posts (event.Send region) table = ⊥
Posts (event.Deliver message) table = ⊥
Posts (event.Reply message) table = ⊥
Posts (event.Restart region) table = ⊥

-- the table was posted: first, or by one of the events
abbrev pub WasPosted : {T : Type 0} → T → List (WorldEvent T) → T → Type 0
WasPosted first [] table = first ≡ table
WasPosted first (event ∷ events) table = Posts event table ⊎ WasPosted first events table

-- the limits are those that a table which was posted has for the tasks, under its prefix
abbrev pub AreOfPosted : {T : Type 0} → (T → ℕ) → (T → ℕ → ℕ) → T → List (WorldEvent T) → List ℕ
    → Limits → Type 0
AreOfPosted {T} covers limit_at first events tasks limits =
    (table : T) × WasPosted first events table × (limits ≡ limits_in covers limit_at table tasks)

-- the prefix that an answer says was put in force
abbrev pub prefix_taken : WorldAnswer → Option ℕ
prefix_taken (Took prefix up) = Some prefix
prefix_taken (Posted prefix) = None
prefix_taken (Sent message prefix) = None
prefix_taken (Older floor up) = None
prefix_taken (Acked prefix) = None
prefix_taken (Restarted floor) = None

-- the region that is delivered a message
abbrev pub is_delivered : {T : Type 0} → World T → WorldEvent T → ℕ → Option ℕ → Option ℕ
is_delivered world (event.Deliver message) region prefix =
    if (down_at world message).region == region then prefix else None
is_delivered world (event.Post table) region prefix = None
is_delivered world (event.Send other) region prefix = None
is_delivered world (event.Reply message) region prefix = None
is_delivered world (event.Restart other) region prefix = None

-- the prefix that an event puts in force in a region, newly or again
abbrev pub prefix_put : {T : Type 0} → (T → ℕ) → World T → WorldEvent T → ℕ → Option ℕ
prefix_put covers world event region =
    is_delivered world event region (prefix_taken (answer_to covers world event))

-- what holds of a moment and of all that comes later
pub record IsLawful {F T : Type 0} (frame : T → F) (covers : T → ℕ) (limit_at : T → ℕ → ℕ)
    (start : World T) (before later : List (WorldEvent T)) (moment end : World T) : Type 0 where
  -- what is in force in a region is the limits, for its tasks, of a table that was posted, under
  -- its prefix
  pub in_force : (region : ℕ) → region < length start.tasks
      → IfSome (region_at moment region).in_force
      (AreOfPosted covers limit_at start.posted before (tasks_at start region))
  -- what a region acknowledged is not above its floor, and that not above the posted prefix
  pub order : (region : ℕ) → region < length start.tasks
      → (acked_at moment region ≤ (region_at moment region).floor)
      × ((region_at moment region).floor ≤ covers moment.posted)
  -- the prefixes in force along a region never fall, over restarts too
  pub never_fall : (region : ℕ) → region < length start.tasks
      → IfSome (region_at moment region).in_force
      (λ earlier. IfSome (region_at end region).in_force
      (λ limits. earlier.prefix ≤ limits.prefix))
  -- a further event puts in force no table with a prefix below what was settled at the moment
  pub settled : (event : WorldEvent T) → IsMeant frame covers end event → (region : ℕ)
      → region < length start.tasks
      → IfSome (prefix_put covers end event region) (λ prefix. settled_of covers moment ≤ prefix)
  -- and what is in force after it was so before, or has a prefix not below what was settled at the
  -- moment
  pub newly : (event : WorldEvent T) → IsMeant frame covers end event → (region : ℕ)
      → region < length start.tasks
      → IfSome (region_at (world_after covers limit_at end event) region).in_force
      (λ limits. ((region_at end region).in_force ≡ Some limits)
      ⊎ (settled_of covers moment ≤ limits.prefix))

-- for every list of events from the first world on, and every moment of it
abbrev pub IsWorldLaw : {F T : Type 0} → (T → F) → (T → ℕ) → (T → ℕ → ℕ) → Type 0
IsWorldLaw {T} frame covers limit_at =
    (tasks : List (List ℕ)) (first : T) (before later : List (WorldEvent T))
    → let start = first_world tasks first in
    let moment = run covers limit_at start before in
    AreMeant frame covers limit_at start before → AreMeant frame covers limit_at moment later
    → IsLawful frame covers limit_at start before later moment (run covers limit_at moment later)
