-- The history of reports is only ever added to.
use Rattle.std.proofs.Common.{◌≡◌, ℕ, ◌+◌, ◌<◌, ◌≤◌, Bool, true, false, cond, eqb, ltb, List, [], ◌∷◌, ◌++◌, set, max, Option, Some, None, refl, sym, ◌∙◌, ap, arith, le_refl, le_trans}
use Rattle.std.proofs.lemmas.Bool.{ltb-true, ltb-false}
use Rattle.std.proofs.lemmas.List.{map_push}
use Rattle.bwe_specs.specs.declared.report.Report.{Report}
use Rattle.control_core.specs.declared.event.ControlEvent.{ControlEvent}
use Rattle.control_core.specs.declared.event.ControlEvent.TheVariants as event
use Rattle.control_core.specs.declared.store.Entry.{Entry}
use Rattle.control_core.specs.declared.store.Leader.{Leader}
use Rattle.control_core.specs.declared.sent.Outcome.{Outcome}
use Rattle.control_core.specs.declared.sent.Outcome.TheVariants.{OnItsWay, Done, Refused, Lost}
use Rattle.control_core.specs.World.{Transaction, World, allocator_at, reader_at, sent_at, leader_revision, posted_prefix, reports_of, reports_at, rows_of, reported, campaigned, expired, sendable, sent_by, with_outcome, done, taken, lost, told_outcome, learned, given_up, told_of, world_after}
use Rattle.control_core.specs.Laws.{run, table_at}
use Rattle.control_core.proofs.Lists.{either}

-- no report is of a later revision than the store's
pub record IsDated (world : World) : Type 0 where
  pub all : (revision : ℕ) → world.revision ≤ revision → reports_at world.reports revision ≡ reports_of world.reports

-- the reports up to a revision stay
pub record Grows (old new : World) : Type 0 where
  pub later : old.revision ≤ new.revision
  pub tasks : new.tasks ≡ old.tasks
  pub stand : (revision : ℕ) → revision ≤ old.revision → reports_at new.reports revision ≡ reports_at old.reports revision

pub record IsLater (old new : World) : Type 0 where
  pub dated : IsDated new
  pub grows : Grows old new

pub grows_itself : (world : World) → Grows world world
grows_itself world = record { later = le_refl world.revision; tasks = refl; stand = λ revision within. refl }

pub grows_further : (old middle new : World) → Grows old middle → Grows middle new → Grows old new
grows_further old middle new first then = record {
  later = le_trans first.later then.later;
  tasks = then.tasks ∙ first.tasks;
  stand = λ revision within. then.stand revision (le_trans within first.later) ∙ first.stand revision within;
}

-- ---- a report

further : (b : Bool) (first last : Report) (old new : List Report) → new ≡ old ++ last ∷ [] → cond b new (first ∷ new) ≡ cond b old (first ∷ old) ++ last ∷ []
further true first last old new is = is
further false first last old new is = ap (λ reports. first ∷ reports) is

at_push : (entries : List Entry) (entry : Entry) (revision : ℕ) → entry.revision ≤ revision → reports_at (entries ++ entry ∷ []) revision ≡ reports_at entries revision ++ entry.report ∷ []
at_push [] entry revision within = go (ltb revision entry.revision) refl where
  go : (b : Bool) → ltb revision entry.revision ≡ b → cond b [] (entry.report ∷ []) ≡ entry.report ∷ []
  go true is = absurd (omega (arith, within, ltb-true revision entry.revision is))
  go false is = refl
at_push (first ∷ entries) entry revision within = further (ltb revision first.revision) first.report entry.report (reports_at entries revision) (reports_at (entries ++ entry ∷ []) revision) (at_push entries entry revision within)

before_push : (entries : List Entry) (entry : Entry) (revision : ℕ) → revision < entry.revision → reports_at (entries ++ entry ∷ []) revision ≡ reports_at entries revision
before_push [] entry revision before = go (ltb revision entry.revision) refl where
  go : (b : Bool) → ltb revision entry.revision ≡ b → cond b [] (entry.report ∷ []) ≡ []
  go true is = refl
  go false is = absurd (omega (arith, before, ltb-false revision entry.revision is))
before_push (first ∷ entries) entry revision before =
    ap (λ reports. cond (ltb revision first.revision) reports (first.report ∷ reports)) (before_push entries entry revision before)

later_report : (world : World) (report : Report) → IsDated world → IsLater world (reported world report)
later_report world report dated =
    let entry : Entry = record { revision = world.revision + 1; report = report } in
    record {
      dated = record {
        all = λ revision within.
            at_push world.reports entry revision within
            ∙ ap (λ reports. reports ++ report ∷ []) (dated.all revision (omega (arith, within)))
            ∙ sym (map_push (λ (entry : Entry). entry.report) world.reports entry);
      };
      grows = record {
        later = omega arith;
        tasks = refl;
        stand = λ revision within. before_push world.reports entry revision (omega (arith, within));
      };
    }

-- ---- what is no report

still : (old new : World) → old.revision ≤ new.revision → new.tasks ≡ old.tasks → new.reports ≡ old.reports → IsDated old → IsLater old new
still old new later tasks reports dated = record {
  dated = record {
    all = λ revision within. ap (λ entries. reports_at entries revision) reports ∙ dated.all revision (le_trans later within) ∙ ap reports_of (sym reports);
  };
  grows = record { later = later; tasks = tasks; stand = λ revision within. ap (λ entries. reports_at entries revision) reports };
}

itself : (world : World) → IsDated world → IsLater world world
itself world dated = still world world (le_refl world.revision) refl refl dated

later_campaign : (world : World) (allocator : ℕ) (leader : Option Leader) → IsDated world → IsLater world (campaigned world allocator leader)
later_campaign world allocator (Some leader) dated = itself world dated
later_campaign world allocator None dated = still world (campaigned world allocator None) (omega arith) refl refl dated

later_expire : (world : World) (leader : Option Leader) → IsDated world → IsLater world (expired world leader)
later_expire world None dated = itself world dated
later_expire world (Some leader) dated = still world (expired world (Some leader)) (omega arith) refl refl dated

later_send : (world : World) (number : ℕ) (it : Option Transaction) → IsDated world → IsLater world (sent_by world number it)
later_send world number None dated = itself world dated
later_send world number (Some it) dated = still world (sent_by world number (Some it)) (le_refl world.revision) refl refl dated

later_take : (world : World) (number : ℕ) (it : Transaction) (outcome : Outcome) → IsDated world → IsLater world (taken world number it outcome)
later_take world number it OnItsWay dated =
    either (IsLater world) (eqb (leader_revision world.leader) it.fence) (done world number it (world.revision + 1)) (with_outcome world number it Refused)
    (still world (done world number it (world.revision + 1)) (omega arith) refl refl dated) (still world (with_outcome world number it Refused) (le_refl world.revision) refl refl dated)
later_take world number it (Done revision) dated = itself world dated
later_take world number it Refused dated = itself world dated
later_take world number it Lost dated = itself world dated

later_lose : (world : World) (number : ℕ) (it : Transaction) (outcome : Outcome) → IsDated world → IsLater world (lost world number it outcome)
later_lose world number it OnItsWay dated = still world (with_outcome world number it Lost) (le_refl world.revision) refl refl dated
later_lose world number it (Done revision) dated = itself world dated
later_lose world number it Refused dated = itself world dated
later_lose world number it Lost dated = itself world dated

later_told : (world : World) (number : ℕ) (it : Transaction) (outcome : Outcome) → IsDated world → IsLater world (told_outcome world number it outcome)
later_told world number it (Done revision) dated = still world (told_outcome world number it (Done revision)) (le_refl world.revision) refl refl dated
later_told world number it Refused dated = still world (told_outcome world number it Refused) (le_refl world.revision) refl refl dated
later_told world number it OnItsWay dated = itself world dated
later_told world number it Lost dated = itself world dated

later_learn : (world : World) (number : ℕ) (waits : Option ℕ) → IsDated world → IsLater world (learned world number waits)
later_learn world number None dated = itself world dated
later_learn world number (Some waits) dated = later_told world number (sent_at world waits).transaction (sent_at world waits).outcome dated

later_give_up : (world : World) (number : ℕ) (waits : Option ℕ) → IsDated world → IsLater world (given_up world number waits)
later_give_up world number None dated = itself world dated
later_give_up world number (Some waits) dated = still world (given_up world number (Some waits)) (le_refl world.revision) refl refl dated

later_tell : (world : World) (reader revision : ℕ) → IsDated world → IsLater world (told_of world reader revision)
later_tell world reader revision dated = go (ltb (posted_prefix world.posted) revision) where
  new : World
  new = record world { readers = set world.readers reader (record (reader_at world reader) { told = max (reader_at world reader).told revision }) }

  go : (b : Bool) → IsLater world (cond b world new)
  go true = itself world dated
  go false = still world new (le_refl world.revision) refl refl dated

-- ---- runs

pub later : (limits : List Report → ℕ → ℕ) (world : World) (event : ControlEvent) → IsDated world → IsLater world (world_after limits world event)
later limits world (event.Report report) dated = later_report world report dated
later limits world (event.Campaign allocator) dated = later_campaign world allocator world.leader dated
later limits world event.Expire dated = later_expire world world.leader dated
later limits world (event.Read allocator) dated = still world (world_after limits world (event.Read allocator)) (le_refl world.revision) refl refl dated
later limits world (event.Look allocator) dated = still world (world_after limits world (event.Look allocator)) (le_refl world.revision) refl refl dated
later limits world (event.Send allocator upto) dated =
    let it = allocator_at world allocator in
    later_send world allocator (sendable allocator upto it.known it.reading it.waits) dated
later limits world (event.Take transaction) dated = later_take world transaction (sent_at world transaction).transaction (sent_at world transaction).outcome dated
later limits world (event.Lose transaction) dated = later_lose world transaction (sent_at world transaction).transaction (sent_at world transaction).outcome dated
later limits world (event.Learn allocator) dated = later_learn world allocator (allocator_at world allocator).waits dated
later limits world (event.GiveUp allocator) dated = later_give_up world allocator (allocator_at world allocator).waits dated
later limits world (event.Crash allocator) dated = still world (world_after limits world (event.Crash allocator)) (le_refl world.revision) refl refl dated
later limits world (event.Tell reader revision) dated = later_tell world reader revision dated
later limits world (event.See reader) dated = still world (world_after limits world (event.See reader)) (le_refl world.revision) refl refl dated

pub run_later : (limits : List Report → ℕ → ℕ) (world : World) (events : List ControlEvent) → IsDated world → IsLater world (run limits world events)
run_later limits world [] dated = record { dated = dated; grows = grows_itself world }
run_later limits world (event ∷ events) dated =
    let next = world_after limits world event in
    let first = later limits world event dated in
    let rest = run_later limits next events first.dated in
    record { dated = rest.dated; grows = grows_further world next (run limits next events) first.grows rest.grows }

-- the table of all reports is that of the store's revision, in any later world
pub table_now : (limits : List Report → ℕ → ℕ) (world end : World) → IsDated world → Grows world end → rows_of limits (reports_of world.reports) world.tasks ≡ table_at limits end world.revision
table_now limits world end dated grows =
    ap (λ reports. rows_of limits reports world.tasks) (sym (dated.all world.revision (le_refl world.revision)) ∙ sym (grows.stand world.revision (le_refl world.revision)))
    ∙ ap (λ tasks. rows_of limits (reports_at end.reports world.revision) tasks) (sym grows.tasks)
