-- What holds once all regions have taken the posted table.
use Rattle.std.specs.Prelude.{◌≡◌, ℕ, ◌<◌, List, [], Some, length, slice_index_or}
use Rattle.enforcer_core.specs.declared.event.WorldEvent.{WorldEvent}
use Rattle.enforcer_core.specs.World.{World, first_world, limits_in, prefix_in_force, region_at}
use Rattle.enforcer_core.specs.Laws.{AreMeant, run}

-- each region has limits in force under the posted prefix: it has taken the posted table, and not
-- restarted since
abbrev pub HasTakenPosted : {T : Type 0} → (T → ℕ) → List (List ℕ) → World T → Type 0
HasTakenPosted covers tasks world = (region : ℕ) → region < length tasks
    → prefix_in_force world region ≡ Some (covers world.posted)

-- what is in force in each region is what the posted table has for the region's tasks
abbrev pub IsInForce : {T : Type 0} → (T → ℕ) → (T → ℕ → ℕ) → List (List ℕ) → World T → Type 0
IsInForce covers limit_at tasks world =
    (region : ℕ) → region < length tasks
    → (region_at world region).in_force
    ≡ Some (limits_in covers limit_at world.posted (slice_index_or tasks region []))

-- Enforcement settles: after every list of events, where each region has taken the posted table and
-- not restarted since, the limits in force of all regions together are those of one table, the
-- posted one
abbrev pub EnforcementSettles : {F T : Type 0} → (T → F) → (T → ℕ) → (T → ℕ → ℕ) → Type 0
EnforcementSettles {T} frame covers limit_at =
    (tasks : List (List ℕ)) (first : T) (events : List (WorldEvent T))
    → AreMeant frame covers limit_at (first_world tasks first) events
    → HasTakenPosted covers tasks (run covers limit_at (first_world tasks first) events)
    → IsInForce covers limit_at tasks (run covers limit_at (first_world tasks first) events)
