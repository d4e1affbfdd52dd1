-- The law on all runs.
use Rattle.std.proofs.Common.{◌≡◌, ℕ, zero, suc, ◌<◌, ◌≤◌, Bool, true, false, cond, eqb, List, [], ◌∷◌, length, get_or, min, replicate, Option, Some, None, refl, sym, ◌∙◌, ap, subst, arith, le_refl, le_trans, ◌⊎◌, inl, inr}
use Rattle.std.specs.List.{AllByRecursion, fold}
use Rattle.std.specs.Option.{IfSome}
use Rattle.std.proofs.lemmas.Bool.{ltb-false, eqb-true, cases_lt}
use Rattle.std.proofs.lemmas.Option.{IfSome_then}
use Rattle.std.proofs.lemmas.List.{length-replicate, get_or-replicate, get_or_past}
use Rattle.enforcer_core.specs.declared.event.WorldEvent.{WorldEvent}
use Rattle.enforcer_core.specs.declared.event.WorldEvent.TheVariants as event
use Rattle.enforcer_core.specs.declared.event.WorldAnswer.TheVariants.{Took, Older}
use Rattle.enforcer_core.specs.World.{Limits, Region, Down, World, first_world, tasks_at, region_at, down_at, least_acked, settled_of, is_older, delivered, restarted, world_after, IsMeant}
use Rattle.enforcer_core.specs.Laws.{run, AreMeant, Posts, WasPosted, AreOfPosted, prefix_taken, prefix_put, IsWorldLaw}
use Rattle.enforcer_core.proofs.Steps.{at_set, IsHeld, IsRegular, Rises, rises_itself, rises_further, region_of_down, keeps, rises}

-- ---- the first world

at_replicate : {X : Type 0} (P : X → Type 0) (x : X) → P x → (count j : ℕ) → P (get_or (replicate count x) j x)
at_replicate P x holds count j =
    elim (cases_lt j count) [
      | inl inside ↦ subst P (sym (get_or-replicate count j x x inside)) holds
      | inr past ↦ subst P (sym (get_or_past (replicate count x) j x (omega (arith, past, length-replicate count x)))) holds
    ]

first_regular : {T : Type 0} (covers : T → ℕ) (limit_at : T → ℕ → ℕ) (P : T → Type 0) (tasks : List (List ℕ)) (first : T) → P first → IsRegular covers limit_at P (first_world tasks first)
first_regular covers limit_at P tasks first holds =
    let none : Region = record { floor = 0; in_force = None } in
    let floor : (region : ℕ) → get_or (replicate (length tasks) none) region none ≡ none = λ region. at_replicate (λ (r : Region). r ≡ none) none refl (length tasks) region in
    let acked : (region : ℕ) → get_or (replicate (length tasks) 0) region 0 ≡ 0 = λ region. at_replicate (λ (n : ℕ). n ≡ 0) 0 refl (length tasks) region in
    record {
      posted = holds;
      acked = length-replicate (length tasks) 0;
      regions = length-replicate (length tasks) none;
      below = λ region. subst (λ n. n ≤ (get_or (replicate (length tasks) none) region none).floor) (sym (acked region)) (omega arith);
      floors = λ region. subst (λ (r : Region). r.floor ≤ covers first) (sym (floor region)) (omega arith);
      in_force = λ region. subst (λ (r : Region). IsHeld covers limit_at P (tasks_at (first_world tasks first) region) r) (sym (floor region)) tt;
      downs = λ k d inside. absurd (omega arith);
      ups = λ k d inside. absurd (omega arith);
    }

-- ---- runs

-- `P` holds of each table that an event posts
abbrev ArePosting : {T : Type 0} → (T → Type 0) → List (WorldEvent T) → Type 0
ArePosting {T} P events = AllByRecursion (λ event. (table : T) → Posts event table → P table) events

run_regular : {F T : Type 0} (frame : T → F) (covers : T → ℕ) (limit_at : T → ℕ → ℕ) (P : T → Type 0) (world : World T) (events : List (WorldEvent T)) → AreMeant frame covers limit_at world events
    → ArePosting P events → IsRegular covers limit_at P world → IsRegular covers limit_at P (run covers limit_at world events)
run_regular frame covers limit_at P world [] meant posting regular = regular
run_regular frame covers limit_at P world (event ∷ events) meant posting regular =
    run_regular frame covers limit_at P (world_after covers limit_at world event) events meant.1 posting.1 (keeps frame covers limit_at P world event meant.0 posting.0 regular)

run_rises : {F T : Type 0} (frame : T → F) (covers : T → ℕ) (limit_at : T → ℕ → ℕ) (P : T → Type 0) (world : World T) (events : List (WorldEvent T)) → AreMeant frame covers limit_at world events
    → ArePosting P events → IsRegular covers limit_at P world → Rises world (run covers limit_at world events)
run_rises frame covers limit_at P world [] meant posting regular = rises_itself world
run_rises frame covers limit_at P world (event ∷ events) meant posting regular =
    let next = world_after covers limit_at world event in
    rises_further world next (run covers limit_at next events) (rises frame covers limit_at P world event meant.0 regular)
    (run_rises frame covers limit_at P next events meant.1 posting.1 (keeps frame covers limit_at P world event meant.0 posting.0 regular))

-- the first table was posted, and so was each that an event posts
first_posted : {T : Type 0} (first : T) (events : List (WorldEvent T)) → WasPosted first events first
first_posted first [] = refl
first_posted first (event ∷ events) = inr (first_posted first events)

all_posting : {T : Type 0} (Q : T → Type 0) (first : T) (events : List (WorldEvent T)) → ((table : T) → WasPosted first events table → Q table) → ArePosting Q events
all_posting Q first [] weaker = tt
all_posting Q first (event ∷ events) weaker = (λ table posts. weaker table (inl posts), all_posting Q first events (λ table was. weaker table (inr was)))

abbrev Any : {T : Type 0} → T → Type 0
Any table = Unit {0}

any_posting : {T : Type 0} (events : List (WorldEvent T)) → ArePosting Any events
any_posting [] = tt
any_posting (event ∷ events) = (λ table posts. tt, any_posting events)

-- ---- what is settled

fold-min-first : (least : ℕ) (numbers : List ℕ) → fold (λ least acked. min least acked) least numbers ≤ least
fold-min-first least [] = le_refl least
fold-min-first least (number ∷ numbers) = let rest = fold-min-first (min least number) numbers in omega (arith, rest)

fold-min-each : (least : ℕ) (numbers : List ℕ) (k : ℕ) → k < length numbers → fold (λ least acked. min least acked) least numbers ≤ get_or numbers k 0
fold-min-each least [] k inside = absurd (omega arith)
fold-min-each least (number ∷ numbers) zero inside = let rest = fold-min-first (min least number) numbers in omega (arith, rest)
fold-min-each least (number ∷ numbers) (suc k) inside = fold-min-each (min least number) numbers k (omega arith)

least_acked-each : (posted : ℕ) (acked : List ℕ) (k : ℕ) → k < length acked → least_acked posted acked ≤ get_or acked k 0
least_acked-each posted [] k inside = absurd (omega arith)
least_acked-each posted (first ∷ others) zero inside = fold-min-first first others
least_acked-each posted (first ∷ others) (suc k) inside = fold-min-each first others k (omega arith)

-- ---- what an event puts in force

-- what is put in force is not below the floor
put_above : {T : Type 0} (covers : T → ℕ) (world : World T) (event : WorldEvent T) (region : ℕ) → IfSome (prefix_put covers world event region) (λ prefix. (region_at world region).floor ≤ prefix)
put_above covers world (event.Post table) region = tt
put_above covers world (event.Send other) region = tt
put_above covers world (event.Deliver message) region = go (eqb down.region region) refl (is_older at down.limits) refl where
  down : Down
  down = down_at world message

  at : Region
  at = region_at world down.region

  go : (same : Bool) → eqb down.region region ≡ same → (older : Bool) → is_older at down.limits ≡ older
      → IfSome (cond same (prefix_taken (cond older (Older at.floor (length world.ups)) (Took down.limits.prefix (length world.ups)))) None) (λ prefix. (region_at world region).floor ≤ prefix)
  go true is true is' = tt
  go true is false is' = subst (λ (region : ℕ). (region_at world region).floor ≤ down.limits.prefix) (eqb-true down.region region is) (ltb-false down.limits.prefix at.floor is')
  go false is older is' = tt
put_above covers world (event.Reply message) region = tt
put_above covers world (event.Restart other) region = tt

-- the limits in force are as they were, or their prefix is not below a number
abbrev IsNewly : ℕ → Region → Region → Type 0
IsNewly least old new = IfSome new.in_force (λ limits. (old.in_force ≡ Some limits) ⊎ (least ≤ limits.prefix))

newly_itself : (least : ℕ) (region : Region) → IsNewly least region region
newly_itself least region = go region.in_force where
  go : (limits : Option Limits) → IfSome limits (λ some. (limits ≡ Some some) ⊎ (least ≤ some.prefix))
  go None = tt
  go (Some limits) = inl refl

newly_delivered : (least : ℕ) (region : Region) (limits : Limits) → least ≤ region.floor → IsNewly least region (delivered region limits)
newly_delivered least region limits below = go (is_older region limits) refl where
  go : (older : Bool) → is_older region limits ≡ older → IsNewly least region (cond older region (record { floor = limits.prefix; in_force = Some limits }))
  go true is = newly_itself least region
  go false is = inr (le_trans below (ltb-false limits.prefix region.floor is))

newly : {F T : Type 0} (frame : T → F) (covers : T → ℕ) (limit_at : T → ℕ → ℕ) (P : T → Type 0) (least : ℕ) (world : World T) (event : WorldEvent T) → IsMeant frame covers world event
    → IsRegular covers limit_at P world → ((region : ℕ) → region < length world.tasks → least ≤ (region_at world region).floor)
    → (region : ℕ) → IsNewly least (region_at world region) (region_at (world_after covers limit_at world event) region)
newly frame covers limit_at P least world (event.Post table) meant regular above region = newly_itself least (region_at world region)
newly frame covers limit_at P least world (event.Send other) meant regular above region = newly_itself least (region_at world region)
newly frame covers limit_at P least world (event.Deliver message) meant regular above region =
    let down = down_at world message in
    let old = region_at world down.region in
    let within : down.region < length world.regions = region_of_down covers limit_at P world message meant regular in
    at_set (λ j (r : Region). IsNewly least (region_at world j) r) world.regions down.region (delivered old down.limits) (record { floor = 0; in_force = None }) within
    (newly_delivered least old down.limits (above down.region (omega (arith, within, regular.regions)))) region (newly_itself least (region_at world region))
newly frame covers limit_at P least world (event.Reply message) meant regular above region = newly_itself least (region_at world region)
newly frame covers limit_at P least world (event.Restart other) meant regular above region =
    at_set (λ j (r : Region). IsNewly least (region_at world j) r) world.regions other (restarted (region_at world other)) (record { floor = 0; in_force = None }) (omega (arith, meant, regular.regions))
    tt region (newly_itself least (region_at world region))

-- ---- the law

pub law : {F T : Type 0} (frame : T → F) (covers : T → ℕ) (limit_at : T → ℕ → ℕ) → IsWorldLaw frame covers limit_at
law {F} {T} frame covers limit_at tasks first before later meant meant' =
    let start = first_world tasks first in
    let moment = run covers limit_at start before in
    let end = run covers limit_at moment later in
    let P : T → Type 0 = WasPosted first before in
    let regular : IsRegular covers limit_at P moment =
    run_regular frame covers limit_at P start before meant (all_posting P first before (λ table was. was)) (first_regular covers limit_at P tasks first (first_posted first before)) in
    let any : IsRegular covers limit_at Any moment =
    run_regular frame covers limit_at Any start before meant (any_posting before) (first_regular covers limit_at Any tasks first tt) in
    let any' : IsRegular covers limit_at Any end = run_regular frame covers limit_at Any moment later meant' (any_posting later) any in
    let risen : Rises start moment = run_rises frame covers limit_at Any start before meant (any_posting before) (first_regular covers limit_at Any tasks first tt) in
    let risen' : Rises moment end = run_rises frame covers limit_at Any moment later meant' (any_posting later) any in
    let same : length moment.tasks ≡ length tasks = ap (λ (rows : List (List ℕ)). length rows) risen.tasks in
    let same' : length end.tasks ≡ length tasks = ap (λ (rows : List (List ℕ)). length rows) risen'.tasks ∙ same in
    let above : (region : ℕ) → region < length tasks → settled_of covers moment ≤ (region_at end region).floor =
    λ region inside. le_trans (least_acked-each (covers moment.posted) moment.acked region (omega (arith, inside, same, regular.acked)))
    (le_trans (regular.below region) (risen'.floors region)) in
    record {
      in_force = λ region inside.
          IfSome_then (region_at moment region).in_force (regular.in_force region)
          (λ limits held. subst (λ (rows : List (List ℕ)). AreOfPosted covers limit_at first before (get_or rows region []) limits) risen.tasks held.1);
      order = λ region inside. (regular.below region, regular.floors region);
      never_fall = λ region inside.
          IfSome_then (region_at moment region).in_force (regular.in_force region)
          (λ earlier held. IfSome_then (region_at end region).in_force (any'.in_force region)
          (λ limits held'. omega (arith, held.0, held'.0, risen'.floors region)));
      settled = λ event is region inside.
          IfSome_then (prefix_put covers end event region) (put_above covers end event region) (λ prefix le. le_trans (above region inside) le);
      newly = λ event is region inside.
          newly frame covers limit_at Any (settled_of covers moment) end event is any' (λ other within. above other (omega (arith, within, same'))) region;
    }
