-- What one event of the world keeps.
use Rattle.std.proofs.Common.{◌≡◌, ℕ, ◌<◌, ◌≤◌, Bool, true, false, cond, List, [], ◌∷◌, ◌++◌, length, get_or, set, Some, None, refl, sym, ◌∙◌, subst, arith, le_refl, le_trans, inl, inr}
use Rattle.std.specs.List.{All}
use Rattle.std.specs.Option.{IfSome}
use Rattle.std.proofs.lemmas.Bool.{ltb-false, cases_eq}
use Rattle.std.proofs.lemmas.List.{length-set, get_or-set_same, get_or-set_other}
use Rattle.std.proofs.lemmas.List.Elements.{All-push, All-weaker}
use Rattle.enforcer_core.specs.declared.event.WorldEvent.{WorldEvent}
use Rattle.enforcer_core.specs.declared.event.WorldEvent.TheVariants as event
use Rattle.enforcer_core.specs.World.{Limits, Region, Down, Up, World, tasks_at, acked_at, region_at, down_at, up_at, limits_in, is_older, delivered, restarted, acked_after, world_after, IsMeant}
use Rattle.enforcer_core.specs.Laws.{Posts}

-- after a place was set, a fact of each place
pub at_set : {X : Type 0} (P : ℕ → X → Type 0) (xs : List X) (i : ℕ) (x d : X) → i < length xs → P i x → (j : ℕ) → P j (get_or xs j d) → P j (get_or (set xs i x) j d)
at_set P xs i x d inside here j there =
    elim (cases_eq j i) [
      | inl same ↦ subst (λ n. P n (get_or (set xs i x) n d)) (sym same) (subst (P i) (sym (get_or-set_same xs i x d inside)) here)
      | inr differs ↦ subst (P j) (sym (get_or-set_other xs i j x d differs)) there
    ]

-- the limits are those of a table of which `P` holds
abbrev pub IsOf : {T : Type 0} → (T → ℕ) → (T → ℕ → ℕ) → (T → Type 0) → List ℕ → Limits → Type 0
IsOf {T} covers limit_at P tasks limits = (table : T) × P table × (limits ≡ limits_in covers limit_at table tasks)

-- what is in force in a region has the floor as its prefix
abbrev pub IsHeld : {T : Type 0} → (T → ℕ) → (T → ℕ → ℕ) → (T → Type 0) → List ℕ → Region → Type 0
IsHeld covers limit_at P tasks region = IfSome region.in_force (λ limits. (limits.prefix ≡ region.floor) × IsOf covers limit_at P tasks limits)

-- the numbers are in order, and all limits are of tables of which `P` holds
pub record IsRegular {T : Type 0} (covers : T → ℕ) (limit_at : T → ℕ → ℕ) (P : T → Type 0) (world : World T) : Type 0 where
  pub posted : P world.posted
  pub acked : length world.acked ≡ length world.tasks
  pub regions : length world.regions ≡ length world.tasks
  pub below : (region : ℕ) → acked_at world region ≤ (region_at world region).floor
  pub floors : (region : ℕ) → (region_at world region).floor ≤ covers world.posted
  pub in_force : (region : ℕ) → IsHeld covers limit_at P (tasks_at world region) (region_at world region)
  pub downs : All (λ down. (down.region < length world.tasks) × (down.limits.prefix ≤ covers world.posted) × IsOf covers limit_at P (tasks_at world down.region) down.limits) world.downs
  pub ups : All (λ up. (up.region < length world.tasks) × (up.floor ≤ (region_at world up.region).floor)) world.ups

-- no floor and no acknowledgement falls
pub record Rises {T : Type 0} (old new : World T) : Type 0 where
  pub tasks : new.tasks ≡ old.tasks
  pub floors : (region : ℕ) → (region_at old region).floor ≤ (region_at new region).floor
  pub acked : (region : ℕ) → acked_at old region ≤ acked_at new region

pub rises_itself : {T : Type 0} (world : World T) → Rises world world
rises_itself world = record {
  tasks = refl;
  floors = λ region. le_refl (region_at world region).floor;
  acked = λ region. le_refl (acked_at world region);
}

pub rises_further : {T : Type 0} (old middle new : World T) → Rises old middle → Rises middle new → Rises old new
rises_further old middle new first then = record {
  tasks = then.tasks ∙ first.tasks;
  floors = λ region. le_trans (first.floors region) (then.floors region);
  acked = λ region. le_trans (first.acked region) (then.acked region);
}

-- the world with another region at a number
abbrev with_region : {T : Type 0} → World T → ℕ → Region → World T
with_region world number next = record world { regions = set world.regions number next }

keeps_region : {T : Type 0} (covers : T → ℕ) (limit_at : T → ℕ → ℕ) (P : T → Type 0) (world : World T) (number : ℕ) (next : Region) → number < length world.tasks
    → (region_at world number).floor ≤ next.floor → next.floor ≤ covers world.posted → IsHeld covers limit_at P (tasks_at world number) next
    → IsRegular covers limit_at P world → IsRegular covers limit_at P (with_region world number next)
keeps_region covers limit_at P world number next inside raised posted held regular =
    let within : number < length world.regions = omega (arith, inside, regular.regions) in
    let none : Region = record { floor = 0; in_force = None } in
    let rising : (region : ℕ) → (region_at world region).floor ≤ (get_or (set world.regions number next) region none).floor =
    λ region. at_set (λ j (r : Region). (region_at world j).floor ≤ r.floor) world.regions number next none within raised region (le_refl (region_at world region).floor) in
    record {
      posted = regular.posted;
      acked = regular.acked;
      regions = length-set world.regions number next ∙ regular.regions;
      below = λ region. le_trans (regular.below region) (rising region);
      floors = λ region. at_set (λ j (r : Region). r.floor ≤ covers world.posted) world.regions number next none within posted region (regular.floors region);
      in_force = λ region. at_set (λ j (r : Region). IsHeld covers limit_at P (tasks_at world j) r) world.regions number next none within held region (regular.in_force region);
      downs = regular.downs;
      ups = All-weaker (λ (up : Up). (up.region < length world.tasks) × (up.floor ≤ (region_at world up.region).floor))
          (λ up. (up.region < length world.tasks) × (up.floor ≤ (get_or (set world.regions number next) up.region none).floor))
          (λ up fact. (fact.0, le_trans fact.1 (rising up.region))) world.ups regular.ups;
    }

rises_region : {T : Type 0} (world : World T) (number : ℕ) (next : Region) → number < length world.regions → (region_at world number).floor ≤ next.floor → Rises world (with_region world number next)
rises_region world number next within raised = record {
  tasks = refl;
  floors = λ region.
      at_set (λ j (r : Region). (region_at world j).floor ≤ r.floor) world.regions number next (record { floor = 0; in_force = None }) within raised region (le_refl (region_at world region).floor);
  acked = λ region. le_refl (acked_at world region);
}

keeps_up : {T : Type 0} (covers : T → ℕ) (limit_at : T → ℕ → ℕ) (P : T → Type 0) (world : World T) (up : Up) → up.region < length world.tasks → up.floor ≤ (region_at world up.region).floor
    → IsRegular covers limit_at P world → IsRegular covers limit_at P (record world { ups = world.ups ++ up ∷ [] })
keeps_up covers limit_at P world up inside told regular = record {
  posted = regular.posted;
  acked = regular.acked;
  regions = regular.regions;
  below = regular.below;
  floors = regular.floors;
  in_force = regular.in_force;
  downs = regular.downs;
  ups = All-push (λ (up : Up). (up.region < length world.tasks) × (up.floor ≤ (region_at world up.region).floor)) world.ups up regular.ups (inside, told);
}

-- a region that was delivered limits: its floor has risen to a posted prefix, and it holds what it held or those limits
record IsNext {T : Type 0} (covers : T → ℕ) (limit_at : T → ℕ → ℕ) (P : T → Type 0) (posted : T) (tasks : List ℕ) (old new : Region) : Type 0 where
  raised : old.floor ≤ new.floor
  within : new.floor ≤ covers posted
  held : IsHeld covers limit_at P tasks new

next_delivered : {T : Type 0} (covers : T → ℕ) (limit_at : T → ℕ → ℕ) (P : T → Type 0) (posted : T) (tasks : List ℕ) (region : Region) (limits : Limits) → region.floor ≤ covers posted
    → limits.prefix ≤ covers posted → IsHeld covers limit_at P tasks region → IsOf covers limit_at P tasks limits → IsNext covers limit_at P posted tasks region (delivered region limits)
next_delivered covers limit_at P posted tasks region limits floor prefix held of = go (is_older region limits) refl where
  go : (older : Bool) → is_older region limits ≡ older → IsNext covers limit_at P posted tasks region (cond older region (record { floor = limits.prefix; in_force = Some limits }))
  go true is = record { raised = le_refl region.floor; within = floor; held = held }
  go false is = record { raised = ltb-false limits.prefix region.floor is; within = prefix; held = (refl, of) }

pub region_of_down : {T : Type 0} (covers : T → ℕ) (limit_at : T → ℕ → ℕ) (P : T → Type 0) (world : World T) (message : ℕ) → message < length world.downs → IsRegular covers limit_at P world
    → (down_at world message).region < length world.regions
region_of_down covers limit_at P world message inside regular =
    let fact = regular.downs message (record { region = 0; limits = record { prefix = 0; limits = [] } }) inside in
    omega (arith, fact.0, regular.regions)

pub keeps : {F T : Type 0} (frame : T → F) (covers : T → ℕ) (limit_at : T → ℕ → ℕ) (P : T → Type 0) (world : World T) (event : WorldEvent T) → IsMeant frame covers world event
    → ((table : T) → Posts event table → P table) → IsRegular covers limit_at P world → IsRegular covers limit_at P (world_after covers limit_at world event)
keeps frame covers limit_at P world (event.Post table) meant posts regular = record {
  posted = posts table refl;
  acked = regular.acked;
  regions = regular.regions;
  below = regular.below;
  floors = λ region. le_trans (regular.floors region) meant.rising;
  in_force = regular.in_force;
  downs = All-weaker (λ (down : Down). (down.region < length world.tasks) × (down.limits.prefix ≤ covers world.posted) × IsOf covers limit_at P (tasks_at world down.region) down.limits)
      (λ down. (down.region < length world.tasks) × (down.limits.prefix ≤ covers table) × IsOf covers limit_at P (tasks_at world down.region) down.limits)
      (λ down fact. (fact.0, le_trans fact.1 meant.rising, fact.2)) world.downs regular.downs;
  ups = regular.ups;
}
keeps frame covers limit_at P world (event.Send region) meant posts regular = record {
  posted = regular.posted;
  acked = regular.acked;
  regions = regular.regions;
  below = regular.below;
  floors = regular.floors;
  in_force = regular.in_force;
  downs = All-push (λ (down : Down). (down.region < length world.tasks) × (down.limits.prefix ≤ covers world.posted) × IsOf covers limit_at P (tasks_at world down.region) down.limits)
      world.downs (record { region = region; limits = limits_in covers limit_at world.posted (tasks_at world region) }) regular.downs
      (meant, le_refl (covers world.posted), (world.posted, regular.posted, refl));
  ups = regular.ups;
}
keeps frame covers limit_at P world (event.Deliver message) meant posts regular =
    let down = down_at world message in
    let fact = regular.downs message (record { region = 0; limits = record { prefix = 0; limits = [] } }) meant in
    let old = region_at world down.region in
    let new = delivered old down.limits in
    let next : IsNext covers limit_at P world.posted (tasks_at world down.region) old new =
    next_delivered covers limit_at P world.posted (tasks_at world down.region) old down.limits (regular.floors down.region) fact.1 (regular.in_force down.region) fact.2 in
    let within : down.region < length world.regions = region_of_down covers limit_at P world message meant regular in
    let none : Region = record { floor = 0; in_force = None } in
    keeps_up covers limit_at P (with_region world down.region new) (record { region = down.region; floor = new.floor }) fact.0
    (subst (λ (region : Region). new.floor ≤ region.floor) (sym (get_or-set_same world.regions down.region new none within)) (le_refl new.floor))
    (keeps_region covers limit_at P world down.region new fact.0 next.raised next.within next.held regular)
keeps frame covers limit_at P world (event.Reply message) meant posts regular =
    let up = up_at world message in
    let fact = regular.ups message (record { region = 0; floor = 0 }) meant in
    let within : up.region < length world.acked = omega (arith, fact.0, regular.acked) in
    record {
      posted = regular.posted;
      acked = length-set world.acked up.region (acked_after world up) ∙ regular.acked;
      regions = regular.regions;
      below = λ region.
          at_set (λ j (acked : ℕ). acked ≤ (region_at world j).floor) world.acked up.region (acked_after world up) 0 within (omega (arith, fact.1, regular.below up.region)) region (regular.below region);
      floors = regular.floors;
      in_force = regular.in_force;
      downs = regular.downs;
      ups = regular.ups;
    }
keeps frame covers limit_at P world (event.Restart region) meant posts regular =
    keeps_region covers limit_at P world region (restarted (region_at world region)) meant (le_refl (region_at world region).floor) (regular.floors region) tt regular

pub rises : {F T : Type 0} (frame : T → F) (covers : T → ℕ) (limit_at : T → ℕ → ℕ) (P : T → Type 0) (world : World T) (event : WorldEvent T) → IsMeant frame covers world event
    → IsRegular covers limit_at P world → Rises world (world_after covers limit_at world event)
rises frame covers limit_at P world (event.Post table) meant regular = record {
  tasks = refl;
  floors = λ region. le_refl (region_at world region).floor;
  acked = λ region. le_refl (acked_at world region);
}
rises frame covers limit_at P world (event.Send region) meant regular = record {
  tasks = refl;
  floors = λ region. le_refl (region_at world region).floor;
  acked = λ region. le_refl (acked_at world region);
}
rises frame covers limit_at P world (event.Deliver message) meant regular =
    let down = down_at world message in
    let fact = regular.downs message (record { region = 0; limits = record { prefix = 0; limits = [] } }) meant in
    let old = region_at world down.region in
    let new = delivered old down.limits in
    let next : IsNext covers limit_at P world.posted (tasks_at world down.region) old new =
    next_delivered covers limit_at P world.posted (tasks_at world down.region) old down.limits (regular.floors down.region) fact.1 (regular.in_force down.region) fact.2 in
    let here : Rises world (with_region world down.region new) = rises_region world down.region new (region_of_down covers limit_at P world message meant regular) next.raised in
    record { tasks = refl; floors = here.floors; acked = here.acked }
rises frame covers limit_at P world (event.Reply message) meant regular =
    let up = up_at world message in
    let fact = regular.ups message (record { region = 0; floor = 0 }) meant in
    let within : up.region < length world.acked = omega (arith, fact.0, regular.acked) in
    record {
      tasks = refl;
      floors = λ region. le_refl (region_at world region).floor;
      acked = λ region.
          at_set (λ j (acked : ℕ). acked_at world j ≤ acked) world.acked up.region (acked_after world up) 0 within (omega arith) region (le_refl (acked_at world region));
    }
rises frame covers limit_at P world (event.Restart region) meant regular =
    rises_region world region (restarted (region_at world region)) (omega (arith, meant, regular.regions)) (le_refl (region_at world region).floor)
