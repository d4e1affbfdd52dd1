-- Written events are events of the World, so that its laws hold of the world that is printed.
use Rattle.std.specs.Prelude.{◌≡◌, ℕ, ◌≤◌, List, [], ◌∷◌, ◌++◌, length, take}
use Rattle.bwe_specs.specs.declared.report.Report.{Report}
use Rattle.enforcer_core.specs.declared.event.WorldEvent.{WorldEvent}
use Rattle.enforcer_core.specs.World.{World, first_world, world_after}
use Rattle.enforcer_core.specs.Laws.{IsLawful}
use Rattle.enforce_run.specs.declared.event.EventLine.{EventLine}
use Rattle.enforce_run.specs.EventLines.{AreThere}
use Rattle.enforcer_core.specs.Settled.{HasTakenPosted, IsInForce}
use Rattle.enforce_run.specs.Playing.{event_in, played_of}

-- what written events are in the worlds that they meet, one after the other
abbrev pub events_from : {T : Type 0} → (T → ℕ) → (T → ℕ → ℕ) → (List Report → T) → List Report
    → World T → List EventLine → List (WorldEvent T)
events_from covers limit_at table_of script world [] = []
events_from covers limit_at table_of script world (line ∷ lines) =
    let event = event_in covers table_of script world line in
    event ∷ events_from covers limit_at table_of script (world_after covers limit_at world event)
    lines

-- the world that is printed behind the answers
abbrev pub world_of : {T : Type 0} → (T → ℕ) → (T → ℕ → ℕ) → (List Report → T) → List Report
    → List (List ℕ) → List EventLine → World T
world_of covers limit_at table_of script tasks lines =
    (played_of covers limit_at table_of script tasks lines).world

-- at every moment of the written events, and for all that come later, the World law holds
abbrev pub AreLawful : {F T : Type 0} → (T → F) → (T → ℕ) → (T → ℕ → ℕ) → (List Report → T)
    → List Report → List (List ℕ) → List EventLine → Type 0
AreLawful frame covers limit_at table_of script tasks lines = (before later : List EventLine)
    → lines ≡ before ++ later
    → let start = first_world tasks (table_of []) in
    let moment = world_of covers limit_at table_of script tasks before in
    IsLawful frame covers limit_at start (events_from covers limit_at table_of script start before)
    (events_from covers limit_at table_of script moment later) moment
    (world_of covers limit_at table_of script tasks lines)

-- the posted table is that of the first reports of the script, and what is in force in each region
-- is what it has for the region's tasks: the limits in force of all regions together are those of
-- one table
pub record AreOfOneTable {T : Type 0} (covers : T → ℕ) (limit_at : T → ℕ → ℕ)
    (table_of : List Report → T) (script : List Report) (tasks : List (List ℕ)) (world : World T)
    : Type 0 where
  pub within : covers world.posted ≤ length script
  pub posted : world.posted ≡ table_of (take (covers world.posted) script)
  pub in_force : IsInForce covers limit_at tasks world

-- after the written events, where each region has taken the posted table and not restarted since,
-- that is so
abbrev pub DoSettle : {T : Type 0} → (T → ℕ) → (T → ℕ → ℕ) → (List Report → T) → List Report
    → List (List ℕ) → List EventLine → Type 0
DoSettle covers limit_at table_of script tasks lines =
    HasTakenPosted covers tasks (world_of covers limit_at table_of script tasks lines)
    → AreOfOneTable covers limit_at table_of script tasks
    (world_of covers limit_at table_of script tasks lines)

-- Written events are lawful: the World law holds at every moment of them, and they settle
abbrev pub WrittenEventsAreLawful : {F T : Type 0} → (T → F) → (T → ℕ) → (T → ℕ → ℕ)
    → (List Report → T) → Type 0
WrittenEventsAreLawful frame covers limit_at table_of =
    (script : List Report) (tasks : List (List ℕ)) (lines : List EventLine)
    → AreThere (length tasks) [] lines
    → AreLawful frame covers limit_at table_of script tasks lines
    × DoSettle covers limit_at table_of script tasks lines
