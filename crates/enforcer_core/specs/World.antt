-- A centre that posts tables, and regions that keep to them over a network that may lose, repeat
-- and reorder any message.
use Rattle.std.specs.Prelude.{◌≡◌, ℕ, ◌<◌, ◌≤◌, List, [], ◌∷◌, ◌++◌, Bool, Option, Some, None, length, map, replicate, slice_index, slice_index_or, slice_set, min, max, nat_lt, if◌then◌else◌, option_map}
use Rattle.std.specs.List.{All, fold}
use Rattle.std.specs.Option.{IfSome}
use Rattle.enforcer_core.specs.declared.event.WorldEvent.{WorldEvent}
use Rattle.enforcer_core.specs.declared.event.WorldEvent.TheVariants as event
use Rattle.enforcer_core.specs.declared.event.WorldAnswer.{WorldAnswer}
use Rattle.enforcer_core.specs.declared.event.WorldAnswer.TheVariants.{Posted, Sent, Took, Older, Acked, Restarted}

-- the limits of a region's tasks, in the order of its tasks, and how many reports their table
-- covers
pub record Limits : Type 0 where
  pub prefix : ℕ
  pub limits : List ℕ

-- what a region has: its floor, which it keeps over a restart, and the limits in force
pub record Region : Type 0 where
  pub floor : ℕ
  pub in_force : Option Limits

-- a message from the centre to a region
pub record Down : Type 0 where
  pub region : ℕ
  pub limits : Limits

-- a message from a region to the centre
pub record Up : Type 0 where
  pub region : ℕ
  pub floor : ℕ

-- what the centre has: the posted table, and what each region acknowledged
pub record Centre (T : Type 0) : Type 0 where
  pub posted : T
  pub acked : List ℕ

-- the tasks of each region, the posted table, what each region acknowledged, the regions, and all
-- messages that were ever sent
pub record World (T : Type 0) : Type 0 where
  pub tasks : List (List ℕ)
  pub posted : T
  pub acked : List ℕ
  pub regions : List Region
  pub downs : List Down
  pub ups : List Up

-- a table is posted, and nothing else has happened
abbrev pub first_world : {T : Type 0} → List (List ℕ) → T → World T
first_world tasks first = record {
  tasks = tasks;
  posted = first;
  acked = replicate (length tasks) 0;
  regions = replicate (length tasks) (record { floor = 0; in_force = None });
  downs = [];
  ups = [];
}

-- ---- what is where

abbrev pub tasks_at : {T : Type 0} → World T → ℕ → List ℕ
tasks_at world region = slice_index_or world.tasks region []

abbrev pub acked_at : {T : Type 0} → World T → ℕ → ℕ
acked_at world region = slice_index world.acked region

abbrev pub region_at : {T : Type 0} → World T → ℕ → Region
region_at world region = slice_index_or world.regions region (record { floor = 0; in_force = None })

abbrev pub down_at : {T : Type 0} → World T → ℕ → Down
down_at world message =
    slice_index_or world.downs message
    (record { region = 0; limits = record { prefix = 0; limits = [] } })

abbrev pub up_at : {T : Type 0} → World T → ℕ → Up
up_at world message = slice_index_or world.ups message (record { region = 0; floor = 0 })

-- how many reports the table covers whose limits are in force in a region
abbrev pub prefix_in_force : {T : Type 0} → World T → ℕ → Option ℕ
prefix_in_force world region =
    option_map (λ limits. limits.prefix) (region_at world region).in_force

-- the limit in force for the task at an index of a region's tasks
abbrev pub limit_in_force : {T : Type 0} → World T → ℕ → ℕ → Option ℕ
limit_in_force world region place =
    option_map (λ limits. slice_index limits.limits place) (region_at world region).in_force

-- the limits that a table has for some tasks; a table covers so many reports and has a limit for
-- each task
abbrev pub limits_in : {T : Type 0} → (T → ℕ) → (T → ℕ → ℕ) → T → List ℕ → Limits
limits_in covers limit_at table tasks =
    record { prefix = covers table; limits = map (λ task. limit_at table task) tasks }

-- the least that a region acknowledged, or the posted prefix where there is no region
abbrev pub least_acked : ℕ → List ℕ → ℕ
least_acked posted [] = posted
least_acked posted (acked ∷ others) = fold (λ least acked. min least acked) acked others

abbrev pub settled_of : {T : Type 0} → (T → ℕ) → World T → ℕ
settled_of covers world = least_acked (covers world.posted) world.acked

-- ---- one event

-- whether limits are older than a region's floor
abbrev pub is_older : Region → Limits → Bool
is_older region limits = nat_lt limits.prefix region.floor

-- a region that was delivered limits
abbrev pub delivered : Region → Limits → Region
delivered region limits =
    if is_older region limits then region
    else record { floor = limits.prefix; in_force = Some limits }

-- a region that lost its limits
abbrev pub restarted : Region → Region
restarted region = record region { in_force = None }

-- a region's acknowledgement, once it tells its floor
abbrev pub acked_after : {T : Type 0} → World T → Up → ℕ
acked_after world up = max (acked_at world up.region) up.floor

-- what an event answers; a new message has the number of messages of its kind so far
abbrev pub answer_to : {T : Type 0} → (T → ℕ) → World T → WorldEvent T → WorldAnswer
answer_to covers world (event.Post table) = Posted (covers table)
answer_to covers world (event.Send region) = Sent (length world.downs) (covers world.posted)
answer_to covers world (event.Deliver message) =
    let down = down_at world message in
    let region = region_at world down.region in
    if is_older region down.limits then Older region.floor (length world.ups)
    else Took down.limits.prefix (length world.ups)
answer_to covers world (event.Reply message) = Acked (acked_after world (up_at world message))
answer_to covers world (event.Restart region) = Restarted (region_at world region).floor

-- the world after it
abbrev pub world_after : {T : Type 0} → (T → ℕ) → (T → ℕ → ℕ) → World T → WorldEvent T → World T
world_after covers limit_at world (event.Post table) = record world { posted = table }
world_after covers limit_at world (event.Send region) =
    record world {
      downs = world.downs
          ++ record {
            region = region;
            limits = limits_in covers limit_at world.posted (tasks_at world region);
          } ∷ [];
    }
world_after covers limit_at world (event.Deliver message) =
    let down = down_at world message in
    let region = delivered (region_at world down.region) down.limits in
    record world {
      regions = slice_set world.regions down.region region;
      ups = world.ups ++ record { region = down.region; floor = region.floor } ∷ [];
    }
world_after covers limit_at world (event.Reply message) =
    let up = up_at world message in
    record world { acked = slice_set world.acked up.region (acked_after world up) }
world_after covers limit_at world (event.Restart region) =
    record world { regions = slice_set world.regions region (restarted (region_at world region)) }

-- ---- which events there are

-- a table may be posted after another: it is of the same plan, covers no fewer reports, and is the
-- same where it covers as many
pub record Follows {F T : Type 0} (frame : T → F) (covers : T → ℕ) (posted table : T) : Type 0 where
  pub plan : frame table ≡ frame posted
  pub rising : covers posted ≤ covers table
  pub same : covers table ≡ covers posted → table ≡ posted

-- the region is in range, the message was sent, and the table may be posted
abbrev pub IsMeant : {F T : Type 0} → (T → F) → (T → ℕ) → World T → WorldEvent T → Type 0
IsMeant frame covers world (event.Post table) = Follows frame covers world.posted table
IsMeant frame covers world (event.Send region) = region < length world.tasks
IsMeant frame covers world (event.Deliver message) = message < length world.downs
IsMeant frame covers world (event.Reply message) = message < length world.ups
IsMeant frame covers world (event.Restart region) = region < length world.tasks

-- ---- what each world keeps

-- there is a limit for each of the region's tasks
abbrev pub IsFor : List ℕ → Limits → Type 0
IsFor tasks limits = length limits.limits ≡ length tasks

-- a message is to one of the regions, and has a limit for each of its tasks
abbrev pub IsDown : List (List ℕ) → Down → Type 0
IsDown tasks down = (down.region < length tasks)
    × IsFor (slice_index_or tasks down.region []) down.limits

-- each number is in range, and there is a limit for each task
pub record IsWhole {T : Type 0} (count : ℕ) (world : World T) : Type 0 where
  pub tasks : All (λ tasks. All (λ task. task < count) tasks) world.tasks
  pub acked : length world.acked ≡ length world.tasks
  pub regions : length world.regions ≡ length world.tasks
  pub in_force : (region : ℕ) → region < length world.tasks
      → IfSome (region_at world region).in_force (IsFor (tasks_at world region))
  pub downs : All (IsDown world.tasks) world.downs
  pub ups : All (λ up. up.region < length world.tasks) world.ups
