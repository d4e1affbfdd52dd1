-- Written events, played on a world of regions.
use Rattle.std.specs.Prelude.{◌≡◌, ℕ, ◌<◌, ◌≤◌, ◌==◌, List, [], ◌∷◌, ◌++◌, length, map, take, min, max, slice_index}
use Rattle.std.specs.List.{filter}
use Rattle.bwe_specs.specs.declared.report.Report.{Report}
use Rattle.bwe_specs.specs.Reports.{numbers}
use Rattle.enforcer_core.specs.declared.event.WorldEvent.{WorldEvent}
use Rattle.enforcer_core.specs.declared.event.WorldEvent.TheVariants as event
use Rattle.enforcer_core.specs.declared.event.WorldAnswer.{WorldAnswer}
use Rattle.enforcer_core.specs.World.{World, answer_to, first_world, world_after}
use Rattle.enforce_run.specs.declared.event.EventLine.{EventLine}
use Rattle.enforce_run.specs.declared.event.EventLine.TheVariants.{Post, Send, Deliver, Reply, Restart}

-- ---- regions

-- the tasks below a number that a reporter owns; there is an owner for each task
unfoldable pub owned_below : List ℕ → ℕ → ℕ → List ℕ
owned_below owners reporter count =
    filter (λ task. slice_index owners task == reporter) (numbers count)

-- all tasks that a reporter owns, in order
abbrev pub owned_by : List ℕ → ℕ → List ℕ
owned_by owners reporter = owned_below owners reporter (length owners)

-- a region for each reporter, with the tasks that the reporter owns
abbrev pub regions_of : ℕ → List ℕ → List (List ℕ)
regions_of reporters owners = map (λ reporter. owned_by owners reporter) (numbers reporters)

-- ---- events

-- how many reports the table of a post covers: as many as it asks for, or as are posted, but not
-- more than there are
abbrev pub prefix_of : ℕ → ℕ → ℕ → ℕ
prefix_of reports posted upto = min (max upto posted) reports

-- what a written event is in a world; tables are those of the first reports of a script
abbrev pub event_in : {T : Type 0} → (T → ℕ) → (List Report → T) → List Report → World T → EventLine
    → WorldEvent T
event_in covers table_of script world (Post upto) =
    event.Post (table_of (take (prefix_of (length script) (covers world.posted) upto) script))
event_in covers table_of script world (Send region) = event.Send region
event_in covers table_of script world (Deliver message) = event.Deliver message
event_in covers table_of script world (Reply message) = event.Reply message
event_in covers table_of script world (Restart region) = event.Restart region

-- the answers so far and the world
pub record Played (T : Type 0) : Type 0 where
  pub answers : List WorldAnswer
  pub world : World T

-- one event more
abbrev pub played_on : {T : Type 0} → (T → ℕ) → (T → ℕ → ℕ) → (List Report → T) → List Report
    → Played T → EventLine → Played T
played_on covers limit_at table_of script played line =
    let event = event_in covers table_of script played.world line in
    record {
      answers = played.answers ++ answer_to covers played.world event ∷ [];
      world = world_after covers limit_at played.world event;
    }

-- the events after those that were played
unfoldable pub played_from : {T : Type 0} → (T → ℕ) → (T → ℕ → ℕ) → (List Report → T) → List Report
    → Played T → List EventLine → Played T
played_from covers limit_at table_of script played [] = played
played_from covers limit_at table_of script played (line ∷ lines) =
    played_from covers limit_at table_of script
    (played_on covers limit_at table_of script played line) lines

-- the first world of some regions, in which the table of no report is posted
abbrev pub nothing_played : {T : Type 0} → (List Report → T) → List (List ℕ) → Played T
nothing_played table_of tasks = record { answers = []; world = first_world tasks (table_of []) }

-- all events on that world
abbrev pub played_of : {T : Type 0} → (T → ℕ) → (T → ℕ → ℕ) → (List Report → T) → List Report
    → List (List ℕ) → List EventLine → Played T
played_of covers limit_at table_of script tasks lines =
    played_from covers limit_at table_of script (nothing_played table_of tasks) lines

-- ---- what holds on the way

-- the posted table is that of the first reports of the script, which are those that the maker has
-- taken in
pub record IsOnScript {T : Type 0} (covers : T → ℕ) (table_of : List Report → T)
    (has_absorbed : List Report → Type 0) (script : List Report) (posted : T) : Type 0 where
  pub within : covers posted ≤ length script
  pub table : posted ≡ table_of (take (covers posted) script)
  pub absorbed : has_absorbed (take (covers posted) script)

-- the region or message that an event names is there
abbrev pub IsIn : {T : Type 0} → World T → EventLine → Type 0
IsIn world (Post upto) = Unit {0}
IsIn world (Send region) = region < length world.tasks
IsIn world (Deliver message) = message < length world.downs
IsIn world (Reply message) = message < length world.ups
IsIn world (Restart region) = region < length world.tasks
