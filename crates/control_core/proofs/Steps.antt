-- What one event keeps.
use Rattle.std.proofs.Common.{◌≡◌, ℕ, zero, suc, ◌+◌, ◌<◌, ◌≤◌, Bool, true, false, cond, eqb, ltb, List, length, set, max, Option, Some, None, refl, sym, ◌∙◌, ap, subst, arith, le_refl, le_trans, inl, inr}
use Rattle.std.specs.Option.{IfSome}
use Rattle.std.specs.Cmp.Lexicographic.{pointwise}
use Rattle.std.specs.Prelude.{nat_eq}
use Rattle.std.proofs.lemmas.Bool.{ltb-false, eqb-true, cases_lt}
use Rattle.std.proofs.lemmas.Slice.Eq.{bytes_eq-Decides}
use Rattle.bwe_specs.specs.declared.report.Report.{Report}
use Rattle.control_core.specs.declared.event.ControlEvent.{ControlEvent}
use Rattle.control_core.specs.declared.event.ControlEvent.TheVariants as event
use Rattle.control_core.specs.declared.store.Leader.{Leader}
use Rattle.control_core.specs.declared.reader.Reader.{Reader}
use Rattle.control_core.specs.declared.sent.Outcome.{Outcome}
use Rattle.control_core.specs.declared.sent.Outcome.TheVariants.{OnItsWay, Done, Refused, Lost}
use Rattle.control_core.specs.World.{Slice, Slices, Rows, Posting, Known, Reading, Allocator, Transaction, Sent, World, fresh, untold, allocator_at, reader_at, nothing_sent, sent_at, slice_at, row_at, leader_revision, posted_prefix, reports_of, rows_of, differs, written_over, agree_below, is_table, with_allocator, reported, campaigned, expired, known_of, having_read, having_looked, transaction_of, sendable, sent_by, with_outcome, done, taken, lost, since_after, no_longer_waits, told_outcome, learned, given_up, told_of, world_after}
use Rattle.control_core.specs.Laws.{IsThere, AreTable, AreWhole}
use Rattle.control_core.proofs.Lists.{at_set, at_push, all_push, all_set, all_at, either}

abbrev pub posted_revision : Option Posting → ℕ
posted_revision None = 0
posted_revision (Some posting) = posting.revision

-- ---- what is kept

-- a posting: the table of its prefix, which is below its revision
pub record IsPosted (rows : ℕ → Rows) (revision : ℕ) (posting : Posting) : Type 0 where
  pub table : AreTable posting.slices (rows posting.prefix)
  pub below : posting.prefix < posting.revision
  pub within : posting.revision ≤ revision

-- the leader key is written at or after the posting
pub record IsLeading (revision : ℕ) (posted : Option Posting) (leader : Leader) : Type 0 where
  pub first : 0 < leader.revision
  pub within : leader.revision ≤ revision
  pub after : posted_revision posted ≤ leader.revision

-- a reading is the table of its revision
pub record IsRead (rows : ℕ → Rows) (revision : ℕ) (reading : Reading) : Type 0 where
  pub within : reading.revision ≤ revision
  pub table : reading.rows ≡ rows reading.revision

-- while the leader key's modification revision is a fence, all was posted at or before a revision, and
-- the slices stand as they are known
abbrev pub IsSo : World → ℕ → ℕ → Slices → Type 0
IsSo world fence since slices = leader_revision world.leader ≡ fence → (posted_revision world.posted ≤ since) × (world.slices ≡ slices)

pub record IsKnown (world : World) (known : Known) : Type 0 where
  pub first : 0 < known.fence
  pub within : known.fence ≤ world.revision
  pub so : IsSo world known.fence known.since known.slices

-- a transaction on its way was made of a reading at a revision at or after all that is posted where
-- the store takes it
pub record IsOnItsWay (rows : ℕ → Rows) (world : World) (it : Transaction) : Type 0 where
  pub first : 0 < it.fence
  pub within : it.fence ≤ world.revision
  pub read : it.prefix ≤ world.revision
  pub reach : it.since ≤ it.prefix
  pub table : it.posts ≡ true → AreTable it.after (rows it.prefix)
  pub so : leader_revision world.leader ≡ it.fence → (posted_revision world.posted ≤ it.since) × (written_over it.writes world.slices ≡ it.after)

pub record IsDone (world : World) (it : Transaction) (revision : ℕ) : Type 0 where
  pub first : 0 < revision
  pub within : revision ≤ world.revision
  pub so : IsSo world revision (since_after it revision) it.after

abbrev pub IsSent : (ℕ → Rows) → World → Transaction → Outcome → Type 0
IsSent rows world it OnItsWay = IsOnItsWay rows world it
IsSent rows world it (Done revision) = IsDone world it revision
IsSent rows world it Refused = Unit {0}
IsSent rows world it Lost = Unit {0}

abbrev pub IsShown : Slices → Posting → Type 0
IsShown slices posting = slices ≡ posting.slices

pub record IsRegular (rows : ℕ → Rows) (world : World) : Type 0 where
  pub leader : IfSome world.leader (IsLeading world.revision world.posted)
  pub posted : IfSome world.posted (IsPosted rows world.revision)
  pub whole : AreWhole world → IfSome world.posted (IsShown world.slices)
  pub readings : (number : ℕ) → IfSome (allocator_at world number).reading (IsRead rows world.revision)
  pub known : (number : ℕ) → IfSome (allocator_at world number).known (IsKnown world)
  pub sent : (number : ℕ) → IsSent rows world (sent_at world number).transaction (sent_at world number).outcome
  pub told : (reader : ℕ) → (reader_at world reader).told ≤ posted_prefix world.posted
  pub seen : (reader : ℕ) → (reader_at world reader).seen ≤ posted_prefix world.posted

-- a world in which all that is kept is kept, and the posted prefix has not fallen
pub record IsNext (rows : ℕ → Rows) (old new : World) : Type 0 where
  pub regular : IsRegular rows new
  pub rises : posted_prefix old.posted ≤ posted_prefix new.posted

-- ---- numbers

prefix_below : (rows : ℕ → Rows) (revision : ℕ) (posted : Option Posting) → IfSome posted (IsPosted rows revision) → posted_prefix posted ≤ posted_revision posted
prefix_below rows revision None fact = omega arith
prefix_below rows revision (Some posting) fact = omega (arith, fact.below)

posted_within : (rows : ℕ → Rows) (revision : ℕ) (posted : Option Posting) → IfSome posted (IsPosted rows revision) → posted_revision posted ≤ revision
posted_within rows revision None fact = omega arith
posted_within rows revision (Some posting) fact = fact.within

posted_later : (rows : ℕ → Rows) (old new : ℕ) → old ≤ new → (posted : Option Posting) → IfSome posted (IsPosted rows old) → IfSome posted (IsPosted rows new)
posted_later rows old new later None fact = tt
posted_later rows old new later (Some posting) fact = record { table = fact.table; below = fact.below; within = le_trans fact.within later }

leading_later : (old new : ℕ) → old ≤ new → (posted : Option Posting) (leader : Option Leader) → IfSome leader (IsLeading old posted) → IfSome leader (IsLeading new posted)
leading_later old new later posted None fact = tt
leading_later old new later posted (Some leader) fact = record { first = fact.first; within = le_trans fact.within later; after = fact.after }

read_later : (rows : ℕ → Rows) (old new : ℕ) → old ≤ new → (reading : Option Reading) → IfSome reading (IsRead rows old) → IfSome reading (IsRead rows new)
read_later rows old new later None fact = tt
read_later rows old new later (Some reading) fact = record { within = le_trans fact.within later; table = fact.table }

-- ---- one store after another

-- a leader key of an earlier revision is the same key, and what is written is as it was
record IsOnward (old new : World) : Type 0 where
  later : old.revision ≤ new.revision
  same : (fence : ℕ) → 0 < fence → fence ≤ old.revision → leader_revision new.leader ≡ fence
      → (leader_revision old.leader ≡ fence) × (posted_revision new.posted ≡ posted_revision old.posted) × (new.slices ≡ old.slices)

known_onward : (old new : World) → IsOnward old new → (known : Option Known) → IfSome known (IsKnown old) → IfSome known (IsKnown new)
known_onward old new onward None fact = tt
known_onward old new onward (Some known) fact = record {
  first = fact.first;
  within = le_trans fact.within onward.later;
  so = λ is. let same = onward.same known.fence fact.first fact.within is in let was = fact.so same.0 in (omega (arith, was.0, same.1), same.2 ∙ was.1);
}

sent_onward : (rows : ℕ → Rows) (old new : World) → IsOnward old new → (it : Transaction) (outcome : Outcome) → IsSent rows old it outcome → IsSent rows new it outcome
sent_onward rows old new onward it OnItsWay fact = record {
  first = fact.first;
  within = le_trans fact.within onward.later;
  read = le_trans fact.read onward.later;
  reach = fact.reach;
  table = fact.table;
  so = λ is. let same = onward.same it.fence fact.first fact.within is in let was = fact.so same.0 in (omega (arith, was.0, same.1), ap (written_over it.writes) same.2 ∙ was.1);
}
sent_onward rows old new onward it (Done revision) fact = record {
  first = fact.first;
  within = le_trans fact.within onward.later;
  so = λ is. let same = onward.same revision fact.first fact.within is in let was = fact.so same.0 in (omega (arith, was.0, same.1), same.2 ∙ was.1);
}
sent_onward rows old new onward it Refused fact = tt
sent_onward rows old new onward it Lost fact = tt

-- ---- reports, campaigns, ends of leases

keeps_report : (rows : ℕ → Rows) (world : World) (report : Report) → IsRegular rows world → IsNext rows world (reported world report)
keeps_report rows world report regular =
    let new = reported world report in
    let later : world.revision ≤ new.revision = omega arith in
    let onward : IsOnward world new = record { later = later; same = λ fence first within is. (is, refl, refl) } in
    record {
      regular = record {
        leader = leading_later world.revision new.revision later world.posted world.leader regular.leader;
        posted = posted_later rows world.revision new.revision later world.posted regular.posted;
        whole = regular.whole;
        readings = λ number. read_later rows world.revision new.revision later (allocator_at world number).reading (regular.readings number);
        known = λ number. known_onward world new onward (allocator_at world number).known (regular.known number);
        sent = λ number. sent_onward rows world new onward (sent_at world number).transaction (sent_at world number).outcome (regular.sent number);
        told = regular.told;
        seen = regular.seen;
      };
      rises = le_refl (posted_prefix world.posted);
    }

-- the world itself
itself : (rows : ℕ → Rows) (world : World) → IsRegular rows world → IsNext rows world world
itself rows world regular = record { regular = regular; rises = le_refl (posted_prefix world.posted) }

keeps_campaign : (rows : ℕ → Rows) (world : World) (allocator : ℕ) (leader : Option Leader) → IsRegular rows world → IsNext rows world (campaigned world allocator leader)
keeps_campaign rows world allocator (Some leader) regular = itself rows world regular
keeps_campaign rows world allocator None regular =
    let new = campaigned world allocator None in
    let later : world.revision ≤ new.revision = omega arith in
    let within = posted_within rows world.revision world.posted regular.posted in
    let onward : IsOnward world new = record { later = later; same = λ fence first within is. absurd (omega (arith, within, is)) } in
    record {
      regular = record {
        leader = record { first = omega arith; within = omega arith; after = omega (arith, within) };
        posted = posted_later rows world.revision new.revision later world.posted regular.posted;
        whole = regular.whole;
        readings = λ number. read_later rows world.revision new.revision later (allocator_at world number).reading (regular.readings number);
        known = λ number. known_onward world new onward (allocator_at world number).known (regular.known number);
        sent = λ number. sent_onward rows world new onward (sent_at world number).transaction (sent_at world number).outcome (regular.sent number);
        told = regular.told;
        seen = regular.seen;
      };
      rises = le_refl (posted_prefix world.posted);
    }

keeps_expire : (rows : ℕ → Rows) (world : World) (leader : Option Leader) → IsRegular rows world → IsNext rows world (expired world leader)
keeps_expire rows world None regular = itself rows world regular
keeps_expire rows world (Some leader) regular =
    let new = expired world (Some leader) in
    let later : world.revision ≤ new.revision = omega arith in
    let onward : IsOnward world new = record { later = later; same = λ fence first within is. absurd (omega (arith, first, is)) } in
    record {
      regular = record {
        leader = tt;
        posted = posted_later rows world.revision new.revision later world.posted regular.posted;
        whole = regular.whole;
        readings = λ number. read_later rows world.revision new.revision later (allocator_at world number).reading (regular.readings number);
        known = λ number. known_onward world new onward (allocator_at world number).known (regular.known number);
        sent = λ number. sent_onward rows world new onward (sent_at world number).transaction (sent_at world number).outcome (regular.sent number);
        told = regular.told;
        seen = regular.seen;
      };
      rises = le_refl (posted_prefix world.posted);
    }

-- ---- allocators

-- another allocator at a number
keeps_allocator : (rows : ℕ → Rows) (world : World) (number : ℕ) (it : Allocator) → IfSome it.reading (IsRead rows world.revision) → IfSome it.known (IsKnown world) → IsRegular rows world
    → IsNext rows world (with_allocator world number it)
keeps_allocator rows world number it reading known regular =
    let new = with_allocator world number it in
    let onward : IsOnward world new = record { later = le_refl world.revision; same = λ fence first within is. (is, refl, refl) } in
    record {
      regular = record {
        leader = regular.leader;
        posted = regular.posted;
        whole = regular.whole;
        readings = at_set (λ (it : Allocator). IfSome it.reading (IsRead rows world.revision)) world.allocators number it fresh reading regular.readings;
        known = at_set (λ (it : Allocator). IfSome it.known (IsKnown new)) world.allocators number it fresh (known_onward world new onward it.known known)
            (λ number. known_onward world new onward (allocator_at world number).known (regular.known number));
        sent = λ number. sent_onward rows world new onward (sent_at world number).transaction (sent_at world number).outcome (regular.sent number);
        told = regular.told;
        seen = regular.seen;
      };
      rises = le_refl (posted_prefix world.posted);
    }

known_by : (world : World) (number : ℕ) (leader : Option Leader) → world.leader ≡ leader → IfSome leader (IsLeading world.revision world.posted)
    → IfSome (known_of number world.slices leader) (IsKnown world)
known_by world number None is fact = tt
known_by world number (Some leader) is fact =
    either (λ (known : Option Known). IfSome known (IsKnown world)) (eqb leader.holder number) (Some (record { fence = leader.revision; since = leader.revision; slices = world.slices })) None
    (record { first = fact.first; within = fact.within; so = λ same. (fact.after, refl) }) tt

-- ---- transactions

-- where a slice agrees with its row, and so do all of lower numbers
agree_on : (slices : Slices) (rows : Rows) (count reporter : ℕ) (b : Bool) → differs (slice_at slices count) (row_at rows count) ≡ b → cond b false (agree_below slices rows count) ≡ true → reporter < suc count
    → (agree_below slices rows count ≡ true → reporter < count → differs (slice_at slices reporter) (row_at rows reporter) ≡ false)
    → differs (slice_at slices reporter) (row_at rows reporter) ≡ false
agree_on slices rows count reporter true is agrees inside lower = absurd (cc)
agree_on slices rows count reporter false is agrees inside lower =
    elim (cases_lt reporter count) [
      | inl below ↦ lower agrees below
      | inr last ↦ let same : reporter ≡ count = omega (arith, last, inside) in subst (λ n. differs (slice_at slices n) (row_at rows n) ≡ false) (sym same) is
    ]

-- where all slices agree with their rows, they are the table
agree_at : (slices : Slices) (rows : Rows) (count : ℕ) → agree_below slices rows count ≡ true → (reporter : ℕ) → reporter < count → differs (slice_at slices reporter) (row_at rows reporter) ≡ false
agree_at slices rows zero agree reporter inside = absurd (omega arith)
agree_at slices rows (suc count) agree reporter inside =
    agree_on slices rows count reporter (differs (slice_at slices count) (row_at rows count)) refl agree inside (λ agrees below. agree_at slices rows count agrees reporter below)

there : (slice : Option Slice) (row : List ℕ) → differs slice row ≡ false → IsThere row slice
there None row same = absurd (cc)
there (Some slice) row same = go (pointwise nat_eq slice.limits row) refl same where
  go : (b : Bool) → pointwise nat_eq slice.limits row ≡ b → cond b false true ≡ false → slice.limits ≡ row
  go true is same = (bytes_eq-Decides slice.limits row).0 is
  go false is same = absurd (cc)

are_table : (slices : Slices) (rows : Rows) → is_table slices rows ≡ true → AreTable slices rows
are_table slices rows is reporter inside = there (slice_at slices reporter) (row_at rows reporter) (agree_at slices rows (length rows) is reporter inside)

-- what may be sent
may_be_sent : (rows : ℕ → Rows) (world : World) (number upto : ℕ) (known : Option Known) (reading : Option Reading) (waits : Option ℕ) → IfSome known (IsKnown world)
    → IfSome reading (IsRead rows world.revision) → IfSome (sendable number upto known reading waits) (IsOnItsWay rows world)
may_be_sent rows world number upto (Some known) (Some reading) None k r = go (ltb reading.revision known.since) refl where
  it : Transaction
  it = transaction_of number upto known reading

  go : (b : Bool) → ltb reading.revision known.since ≡ b → IfSome (cond b None (Some it)) (IsOnItsWay rows world)
  go true is = tt
  go false is = record {
    first = k.first;
    within = k.within;
    read = r.within;
    reach = ltb-false reading.revision known.since is;
    table = λ posts. subst (λ (table : Rows). AreTable it.after table) r.table (are_table it.after reading.rows posts);
    so = λ same. let was = k.so same in (was.0, ap (written_over it.writes) was.1);
  }
may_be_sent rows world number upto (Some known) (Some reading) (Some waits) k r = tt
may_be_sent rows world number upto (Some known) None waits k r = tt
may_be_sent rows world number upto None reading waits k r = tt

keeps_send : (rows : ℕ → Rows) (world : World) (number : ℕ) (it : Option Transaction) → IfSome it (IsOnItsWay rows world) → IsRegular rows world → IsNext rows world (sent_by world number it)
keeps_send rows world number None fact regular = itself rows world regular
keeps_send rows world number (Some it) fact regular =
    let new = sent_by world number (Some it) in
    let sent : Sent = record { transaction = it; outcome = OnItsWay } in
    let onward : IsOnward world new = record { later = le_refl world.revision; same = λ fence first within is. (is, refl, refl) } in
    let waiting : Allocator = record (allocator_at world number) { waits = Some (length world.sent) } in
    record {
      regular = record {
        leader = regular.leader;
        posted = regular.posted;
        whole = λ whole. regular.whole (all_push (λ (sent : Sent). sent.transaction.posts ≡ true) world.sent sent whole);
        readings = at_set (λ (it : Allocator). IfSome it.reading (IsRead rows world.revision)) world.allocators number waiting fresh (regular.readings number) regular.readings;
        known = at_set (λ (it : Allocator). IfSome it.known (IsKnown new)) world.allocators number waiting fresh
            (known_onward world new onward (allocator_at world number).known (regular.known number))
            (λ number. known_onward world new onward (allocator_at world number).known (regular.known number));
        sent = at_push (λ (sent : Sent). IsSent rows new sent.transaction sent.outcome) world.sent sent nothing_sent (sent_onward rows world new onward it OnItsWay fact) tt
            (λ number. sent_onward rows world new onward (sent_at world number).transaction (sent_at world number).outcome (regular.sent number));
        told = regular.told;
        seen = regular.seen;
      };
      rises = le_refl (posted_prefix world.posted);
    }

-- another outcome of a transaction, of which nothing is to be known
keeps_outcome : (rows : ℕ → Rows) (world : World) (number : ℕ) (outcome : Outcome) → IsSent rows (with_outcome world number (sent_at world number).transaction outcome) (sent_at world number).transaction outcome
    → IsRegular rows world → IsNext rows world (with_outcome world number (sent_at world number).transaction outcome)
keeps_outcome rows world number outcome fact regular =
    let it = (sent_at world number).transaction in
    let new = with_outcome world number it outcome in
    let sent : Sent = record { transaction = it; outcome = outcome } in
    let onward : IsOnward world new = record { later = le_refl world.revision; same = λ fence first within is. (is, refl, refl) } in
    record {
      regular = record {
        leader = regular.leader;
        posted = regular.posted;
        whole = λ whole. regular.whole (all_set (λ (sent : Sent). sent.transaction.posts ≡ true) world.sent number sent nothing_sent (λ posts. posts) whole);
        readings = regular.readings;
        known = λ number. known_onward world new onward (allocator_at world number).known (regular.known number);
        sent = at_set (λ (sent : Sent). IsSent rows new sent.transaction sent.outcome) world.sent number sent nothing_sent fact
            (λ number. sent_onward rows world new onward (sent_at world number).transaction (sent_at world number).outcome (regular.sent number));
        told = regular.told;
        seen = regular.seen;
      };
      rises = le_refl (posted_prefix world.posted);
    }

-- what is posted after a transaction that is done at the next revision
record IsPut (rows : ℕ → Rows) (world : World) (it : Transaction) (revision since : ℕ) (slices : Slices) (posted : Option Posting) : Type 0 where
  is : IfSome posted (IsPosted rows revision)
  reach : posted_revision posted ≤ since
  within : posted_revision posted ≤ revision
  rises : posted_prefix world.posted ≤ posted_prefix posted

is_put : (rows : ℕ → Rows) (world : World) (it : Transaction) (slices : Slices) → IsOnItsWay rows world it → posted_revision world.posted ≤ it.since → slices ≡ it.after → IsRegular rows world
    → (posts : Bool) → it.posts ≡ posts
    → IsPut rows world it (world.revision + 1) (cond posts (world.revision + 1) it.since) slices
    (cond posts (Some (record { prefix = it.prefix; revision = world.revision + 1; slices = slices })) world.posted)
is_put rows world it slices fact since after regular true posts =
    let below = prefix_below rows world.revision world.posted regular.posted in
    record {
      is = record {
        table = subst (λ (slices : Slices). AreTable slices (rows it.prefix)) (sym after) (fact.table posts);
        below = omega (arith, fact.read);
        within = omega arith;
      };
      reach = omega arith;
      within = omega arith;
      rises = omega (arith, below, since, fact.reach);
    }
is_put rows world it slices fact since after regular false posts =
    let within = posted_within rows world.revision world.posted regular.posted in
    record {
      is = posted_later rows world.revision (world.revision + 1) (omega arith) world.posted regular.posted;
      reach = since;
      within = omega (arith, within);
      rises = le_refl (posted_prefix world.posted);
    }

-- the slices stand as they are posted where the transaction posts
shown : (it : Transaction) (revision : ℕ) (slices : Slices) (posted : Option Posting) (posts : Bool) → posts ≡ true
    → IfSome (cond posts (Some (record { prefix = it.prefix; revision = revision; slices = slices })) posted) (IsShown slices)
shown it revision slices posted true is = refl
shown it revision slices posted false is = absurd (cc)

-- where each transaction posts, so does one that is on its way
posting : (world : World) (number : ℕ) → (sent_at world number).outcome ≡ OnItsWay → AreWhole world → (sent_at world number).transaction.posts ≡ true
posting world number is whole =
    all_at (λ (sent : Sent). sent.transaction.posts ≡ true) (λ (sent : Sent). sent.outcome ≡ OnItsWay → sent.transaction.posts ≡ true) world.sent nothing_sent (λ sent posts way. posts) (λ way. absurd (cc)) whole
    number is

keeps_done : (rows : ℕ → Rows) (world : World) (number : ℕ) → (sent_at world number).outcome ≡ OnItsWay → IsOnItsWay rows world (sent_at world number).transaction
    → leader_revision world.leader ≡ (sent_at world number).transaction.fence → IsRegular rows world
    → IsNext rows world (done world number (sent_at world number).transaction (world.revision + 1))
keeps_done rows world number way fact fence regular =
    let it = (sent_at world number).transaction in
    let revision = world.revision + 1 in
    let slices = written_over it.writes world.slices in
    let new = done world number it revision in
    let sent : Sent = record { transaction = it; outcome = Done revision } in
    let was = fact.so fence in
    let put = is_put rows world it slices fact was.0 was.1 regular it.posts refl in
    let later : world.revision ≤ new.revision = omega arith in
    let onward : IsOnward world new = record { later = later; same = λ other first within is. absurd (omega (arith, within, is)) } in
    record {
      regular = record {
        leader = record { first = omega arith; within = omega arith; after = put.within };
        posted = put.is;
        whole = λ whole.
            shown it revision slices world.posted it.posts
            (posting world number way (all_set (λ (sent : Sent). sent.transaction.posts ≡ true) world.sent number sent nothing_sent (λ posts. posts) whole));
        readings = λ number. read_later rows world.revision new.revision later (allocator_at world number).reading (regular.readings number);
        known = λ number. known_onward world new onward (allocator_at world number).known (regular.known number);
        sent = at_set (λ (sent : Sent). IsSent rows new sent.transaction sent.outcome) world.sent number sent nothing_sent
            (record { first = omega arith; within = omega arith; so = λ is. (put.reach, was.1) })
            (λ number. sent_onward rows world new onward (sent_at world number).transaction (sent_at world number).outcome (regular.sent number));
        told = λ reader. le_trans (regular.told reader) put.rises;
        seen = λ reader. le_trans (regular.seen reader) put.rises;
      };
      rises = put.rises;
    }

keeps_take : (rows : ℕ → Rows) (world : World) (number : ℕ) (outcome : Outcome) → (sent_at world number).outcome ≡ outcome → IsSent rows world (sent_at world number).transaction outcome → IsRegular rows world
    → IsNext rows world (taken world number (sent_at world number).transaction outcome)
keeps_take rows world number OnItsWay way fact regular = go (eqb (leader_revision world.leader) it.fence) refl where
  it : Transaction
  it = (sent_at world number).transaction

  go : (b : Bool) → eqb (leader_revision world.leader) it.fence ≡ b → IsNext rows world (cond b (done world number it (world.revision + 1)) (with_outcome world number it Refused))
  go true is = keeps_done rows world number way fact (eqb-true (leader_revision world.leader) it.fence is) regular
  go false is = keeps_outcome rows world number Refused tt regular
keeps_take rows world number (Done revision) way fact regular = itself rows world regular
keeps_take rows world number Refused way fact regular = itself rows world regular
keeps_take rows world number Lost way fact regular = itself rows world regular

keeps_lose : (rows : ℕ → Rows) (world : World) (number : ℕ) (outcome : Outcome) → IsRegular rows world → IsNext rows world (lost world number (sent_at world number).transaction outcome)
keeps_lose rows world number OnItsWay regular = keeps_outcome rows world number Lost tt regular
keeps_lose rows world number (Done revision) regular = itself rows world regular
keeps_lose rows world number Refused regular = itself rows world regular
keeps_lose rows world number Lost regular = itself rows world regular

keeps_knows : (rows : ℕ → Rows) (world : World) (number : ℕ) (known : Option Known) → IfSome known (IsKnown world) → IsRegular rows world → IsNext rows world (no_longer_waits world number known)
keeps_knows rows world number known fact regular =
    keeps_allocator rows world number (record (allocator_at world number) { known = known; waits = None }) (regular.readings number) fact regular

keeps_outcome_told : (rows : ℕ → Rows) (world : World) (number : ℕ) (it : Transaction) (outcome : Outcome) → IsSent rows world it outcome → IsRegular rows world
    → IsNext rows world (told_outcome world number it outcome)
keeps_outcome_told rows world number it (Done revision) fact regular =
    keeps_knows rows world number (Some (record { fence = revision; since = since_after it revision; slices = it.after })) (record { first = fact.first; within = fact.within; so = fact.so }) regular
keeps_outcome_told rows world number it Refused fact regular = keeps_knows rows world number None tt regular
keeps_outcome_told rows world number it OnItsWay fact regular = itself rows world regular
keeps_outcome_told rows world number it Lost fact regular = itself rows world regular

keeps_learn : (rows : ℕ → Rows) (world : World) (number : ℕ) (waits : Option ℕ) → IsRegular rows world → IsNext rows world (learned world number waits)
keeps_learn rows world number None regular = itself rows world regular
keeps_learn rows world number (Some waits) regular = keeps_outcome_told rows world number (sent_at world waits).transaction (sent_at world waits).outcome (regular.sent waits) regular

keeps_give_up : (rows : ℕ → Rows) (world : World) (number : ℕ) (waits : Option ℕ) → IsRegular rows world → IsNext rows world (given_up world number waits)
keeps_give_up rows world number None regular = itself rows world regular
keeps_give_up rows world number (Some waits) regular = keeps_knows rows world number None tt regular

-- ---- readers

keeps_reader : (rows : ℕ → Rows) (world : World) (number : ℕ) (it : Reader) → it.told ≤ posted_prefix world.posted → it.seen ≤ posted_prefix world.posted → IsRegular rows world
    → IsNext rows world (record world { readers = set world.readers number it })
keeps_reader rows world number it told seen regular =
    let new : World = record world { readers = set world.readers number it } in
    let onward : IsOnward world new = record { later = le_refl world.revision; same = λ fence first within is. (is, refl, refl) } in
    record {
      regular = record {
        leader = regular.leader;
        posted = regular.posted;
        whole = regular.whole;
        readings = regular.readings;
        known = λ number. known_onward world new onward (allocator_at world number).known (regular.known number);
        sent = λ number. sent_onward rows world new onward (sent_at world number).transaction (sent_at world number).outcome (regular.sent number);
        told = at_set (λ (it : Reader). it.told ≤ posted_prefix world.posted) world.readers number it untold told regular.told;
        seen = at_set (λ (it : Reader). it.seen ≤ posted_prefix world.posted) world.readers number it untold seen regular.seen;
      };
      rises = le_refl (posted_prefix world.posted);
    }

keeps_tell : (rows : ℕ → Rows) (world : World) (number revision : ℕ) → IsRegular rows world → IsNext rows world (told_of world number revision)
keeps_tell rows world number revision regular = go (ltb (posted_prefix world.posted) revision) refl where
  it : Reader
  it = record (reader_at world number) { told = max (reader_at world number).told revision }

  go : (b : Bool) → ltb (posted_prefix world.posted) revision ≡ b → IsNext rows world (cond b world (record world { readers = set world.readers number it }))
  go true is = itself rows world regular
  go false is = keeps_reader rows world number it (omega (arith, regular.told number, ltb-false (posted_prefix world.posted) revision is)) (regular.seen number) regular

-- ---- each event

pub keeps : (limits : List Report → ℕ → ℕ) (rows : ℕ → Rows) (world : World) (event : ControlEvent) → rows_of limits (reports_of world.reports) world.tasks ≡ rows world.revision → IsRegular rows world
    → IsNext rows world (world_after limits world event)
keeps limits rows world (event.Report report) now regular = keeps_report rows world report regular
keeps limits rows world (event.Campaign allocator) now regular = keeps_campaign rows world allocator world.leader regular
keeps limits rows world event.Expire now regular = keeps_expire rows world world.leader regular
keeps limits rows world (event.Read allocator) now regular =
    keeps_allocator rows world allocator (having_read world allocator) (regular.readings allocator) (known_by world allocator world.leader refl regular.leader) regular
keeps limits rows world (event.Look allocator) now regular =
    keeps_allocator rows world allocator (having_looked limits world allocator) (record { within = le_refl world.revision; table = now }) (regular.known allocator) regular
keeps limits rows world (event.Send allocator upto) now regular =
    let it = allocator_at world allocator in
    keeps_send rows world allocator (sendable allocator upto it.known it.reading it.waits) (may_be_sent rows world allocator upto it.known it.reading it.waits (regular.known allocator) (regular.readings allocator)) regular
keeps limits rows world (event.Take transaction) now regular = keeps_take rows world transaction (sent_at world transaction).outcome refl (regular.sent transaction) regular
keeps limits rows world (event.Lose transaction) now regular = keeps_lose rows world transaction (sent_at world transaction).outcome regular
keeps limits rows world (event.Learn allocator) now regular = keeps_learn rows world allocator (allocator_at world allocator).waits regular
keeps limits rows world (event.GiveUp allocator) now regular = keeps_give_up rows world allocator (allocator_at world allocator).waits regular
keeps limits rows world (event.Crash allocator) now regular = keeps_allocator rows world allocator fresh tt tt regular
keeps limits rows world (event.Tell reader revision) now regular = keeps_tell rows world reader revision regular
keeps limits rows world (event.See reader) now regular =
    keeps_reader rows world reader (record (reader_at world reader) { seen = posted_prefix world.posted }) (regular.told reader) (le_refl (posted_prefix world.posted)) regular
