-- The law on all runs.
use Rattle.std.proofs.Common.{ℕ, ◌≤◌, List, [], ◌∷◌, Option, Some, None, refl, le_refl, le_trans}
use Rattle.std.specs.Option.{IfSome}
use Rattle.bwe_specs.specs.declared.report.Report.{Report}
use Rattle.control_core.specs.declared.event.ControlEvent.{ControlEvent}
use Rattle.control_core.specs.declared.reader.Reader.{Reader}
use Rattle.control_core.specs.World.{Posting, Allocator, World, first_world, fresh, untold, posted_prefix, world_after}
use Rattle.control_core.specs.Laws.{run, table_at, AreWhole, IsPosting, IsControlLaw}
use Rattle.control_core.proofs.Lists.{at_replicate}
use Rattle.control_core.proofs.Steps.{IsShown, IsPosted, IsRead, IsKnown, IsRegular, keeps}
use Rattle.control_core.proofs.Histories.{IsDated, Grows, grows_itself, grows_further, later, run_later, table_now}

first_dated : (tasks : List (List ℕ)) (allocators readers : ℕ) → IsDated (first_world tasks allocators readers)
first_dated tasks allocators readers = record { all = λ revision within. refl }

first_regular : (rows : ℕ → List (List ℕ)) (tasks : List (List ℕ)) (allocators readers : ℕ) → IsRegular rows (first_world tasks allocators readers)
first_regular rows tasks allocators readers =
    let first = first_world tasks allocators readers in
    record {
      leader = tt;
      posted = tt;
      whole = λ whole. tt;
      readings = at_replicate (λ (it : Allocator). IfSome it.reading (IsRead rows 0)) fresh tt allocators;
      known = at_replicate (λ (it : Allocator). IfSome it.known (IsKnown first)) fresh tt allocators;
      sent = λ number. tt;
      told = at_replicate (λ (it : Reader). it.told ≤ 0) untold (le_refl 0) readers;
      seen = at_replicate (λ (it : Reader). it.seen ≤ 0) untold (le_refl 0) readers;
    }

-- what all events keep, and that the posted prefix has not fallen; tables are those of a later world
record IsKeptBy (limits : List Report → ℕ → ℕ) (end world new : World) : Type 0 where
  regular : IsRegular (table_at limits end) new
  rises : posted_prefix world.posted ≤ posted_prefix new.posted

run_keeps : (limits : List Report → ℕ → ℕ) (end world : World) (events : List ControlEvent) → IsDated world → Grows (run limits world events) end → IsRegular (table_at limits end) world
    → IsKeptBy limits end world (run limits world events)
run_keeps limits end world [] dated far regular = record { regular = regular; rises = le_refl (posted_prefix world.posted) }
run_keeps limits end world (event ∷ events) dated far regular =
    let next = world_after limits world event in
    let first = later limits world event dated in
    let rest = run_later limits next events first.dated in
    let grows : Grows world end = grows_further world next end first.grows (grows_further next (run limits next events) end rest.grows far) in
    let step = keeps limits (table_at limits end) world event (table_now limits world end dated grows) regular in
    let more = run_keeps limits end next events first.dated far step.regular in
    record { regular = more.regular; rises = le_trans step.rises more.rises }

posted_at : (limits : List Report → ℕ → ℕ) (moment : World) (posted : Option Posting) → IfSome posted (IsPosted (table_at limits moment) moment.revision)
    → (AreWhole moment → IfSome posted (IsShown moment.slices)) → IfSome posted (IsPosting limits moment)
posted_at limits moment None fact whole = tt
posted_at limits moment (Some posting) fact whole = record { table = fact.table; whole = whole; below = fact.below; within = fact.within }

pub law : (limits : List Report → ℕ → ℕ) → IsControlLaw limits
law limits tasks allocators readers before later =
    let start = first_world tasks allocators readers in
    let moment = run limits start before in
    let end = run limits moment later in
    let dated = first_dated tasks allocators readers in
    let until = run_later limits start before dated in
    let on = run_later limits moment later until.dated in
    let now = run_keeps limits moment start before dated (grows_itself moment) (first_regular (table_at limits moment) tasks allocators readers) in
    let then = run_keeps limits end start before dated on.grows (first_regular (table_at limits end) tasks allocators readers) in
    let rest = run_keeps limits end moment later until.dated (grows_itself end) then.regular in
    record {
      posted = posted_at limits moment moment.posted now.regular.posted now.regular.whole;
      never_falls = rest.rises;
      stand = on.grows.stand;
      told = λ reader. le_trans (now.regular.told reader) rest.rises;
      seen = λ reader. le_trans (now.regular.seen reader) rest.rises;
    }
