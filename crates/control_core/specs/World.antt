-- A store with a history, allocators that post tables through it, and all that they ever sent.
use Rattle.std.specs.Prelude.{ℕ, zero, suc, ◌+◌, ◌<◌, ◌==◌, List, [], ◌∷◌, ◌++◌, Bool, true, false, Option, Some, None, length, map, replicate, slice_index_or, slice_set, max, nat_lt, nat_eq, if◌then◌else◌}
use Rattle.std.specs.List.{All}
use Rattle.std.specs.Cmp.Lexicographic.{pointwise}
use Rattle.bwe_specs.specs.declared.report.Report.{Report}
use Rattle.bwe_specs.specs.Reports.{numbers}
use Rattle.bwe_specs.specs.declared.limits.TheConstants.{MAX_REPORTS}
use Rattle.control_core.specs.declared.event.ControlEvent.{ControlEvent}
use Rattle.control_core.specs.declared.event.ControlEvent.TheVariants as event
use Rattle.control_core.specs.declared.store.Entry.{Entry}
use Rattle.control_core.specs.declared.store.Leader.{Leader}
use Rattle.control_core.specs.declared.reader.Reader.{Reader}
use Rattle.control_core.specs.declared.sent.Outcome.{Outcome}
use Rattle.control_core.specs.declared.sent.Outcome.TheVariants.{OnItsWay, Done, Refused, Lost}

-- the slice of a reporter: the limits of its tasks in the table of a prefix, that is of all reports
-- up to a revision
pub record Slice : Type 0 where
  pub prefix : ℕ
  pub limits : List ℕ

-- the slices of all reporters, none where nothing is written
abbrev pub Slices : Type 0
Slices = List (Option Slice)

-- a table's limits, a row for each reporter
abbrev pub Rows : Type 0
Rows = List (List ℕ)

-- the posted prefix, the revision at which it was posted, and the slices as they stood then
pub record Posting : Type 0 where
  pub prefix : ℕ
  pub revision : ℕ
  pub slices : Slices

-- what an allocator that leads knows: the leader key's modification revision, a revision at or
-- before which all was posted that is posted while the key is so, and the slices that stand then
pub record Known : Type 0 where
  pub fence : ℕ
  pub since : ℕ
  pub slices : Slices

-- a reading of the reports at one revision, as the rows of their table
pub record Reading : Type 0 where
  pub revision : ℕ
  pub rows : Rows

-- an allocator: what it knows, what it read, and the transaction whose outcome it waits for
pub record Allocator : Type 0 where
  pub known : Option Known
  pub reading : Option Reading
  pub waits : Option ℕ

-- a transaction: it compares the leader key's modification revision with the fence, and then writes
-- the leader key anew, some slices, and the posted prefix where it posts. Once it is done, its
-- holder knows the slices `after` it
pub record Transaction : Type 0 where
  pub holder : ℕ
  pub fence : ℕ
  pub prefix : ℕ
  pub writes : Slices
  pub posts : Bool
  pub since : ℕ
  pub after : Slices

pub record Sent : Type 0 where
  pub transaction : Transaction
  pub outcome : Outcome

-- each reporter's tasks, the store, the allocators, all that was ever sent, and the readers
pub record World : Type 0 where
  pub tasks : List (List ℕ)
  pub revision : ℕ
  pub reports : List Entry
  pub leader : Option Leader
  pub slices : Slices
  pub posted : Option Posting
  pub allocators : List Allocator
  pub sent : List Sent
  pub readers : List Reader

-- what a maker has taken in, and the world
pub record Control (M : Type 0) : Type 0 where
  pub maker : M
  pub world : World

abbrev pub fresh : Allocator
fresh = record { known = None; reading = None; waits = None }

abbrev pub untold : Reader
untold = record { told = 0; seen = 0 }

-- nothing has happened
abbrev pub first_world : List (List ℕ) → ℕ → ℕ → World
first_world tasks allocators readers = record {
  tasks = tasks;
  revision = 0;
  reports = [];
  leader = None;
  slices = replicate (length tasks) None;
  posted = None;
  allocators = replicate allocators fresh;
  sent = [];
  readers = replicate readers untold;
}

-- ---- what is where

abbrev pub allocator_at : World → ℕ → Allocator
allocator_at world number = slice_index_or world.allocators number fresh

abbrev pub reader_at : World → ℕ → Reader
reader_at world number = slice_index_or world.readers number untold

abbrev pub nothing_sent : Sent
nothing_sent = record {
  transaction = record {
    holder = 0;
    fence = 0;
    prefix = 0;
    writes = [];
    posts = false;
    since = 0;
    after = [];
  };
  outcome = Lost;
}

abbrev pub sent_at : World → ℕ → Sent
sent_at world number = slice_index_or world.sent number nothing_sent

abbrev pub slice_at : Slices → ℕ → Option Slice
slice_at slices reporter = slice_index_or slices reporter None

abbrev pub row_at : Rows → ℕ → List ℕ
row_at rows reporter = slice_index_or rows reporter []

-- the leader key's modification revision, 0 where there is no key
abbrev pub leader_revision : Option Leader → ℕ
leader_revision None = 0
leader_revision (Some leader) = leader.revision

-- the posted prefix, 0 where nothing is posted
abbrev pub posted_prefix : Option Posting → ℕ
posted_prefix None = 0
posted_prefix (Some posting) = posting.prefix

-- ---- tables

-- all reports, in their order
abbrev pub reports_of : List Entry → List Report
reports_of entries = map (λ entry. entry.report) entries

-- the reports up to a revision
abbrev pub reports_at : List Entry → ℕ → List Report
reports_at [] revision = []
reports_at (entry ∷ entries) revision =
    if nat_lt revision entry.revision then reports_at entries revision
    else entry.report ∷ reports_at entries revision

-- the rows of the table of some reports, by the limit of a task in it
abbrev pub rows_of : (List Report → ℕ → ℕ) → List Report → List (List ℕ) → Rows
rows_of limits reports tasks = map (λ row. map (λ task. limits reports task) row) tasks

-- whether a slice has not the limits of the row
abbrev pub differs : Option Slice → List ℕ → Bool
differs None row = true
differs (Some slice) row = if pointwise nat_eq slice.limits row then false else true

-- a slice as it is written where it differs
abbrev pub write_of : ℕ → Option Slice → List ℕ → Option Slice
write_of prefix slice row =
    if differs slice row then Some (record { prefix = prefix; limits = row }) else None

-- what is written of each reporter below a number
abbrev pub write_at : ℕ → ℕ → Slices → Rows → ℕ → Option Slice
write_at prefix upto slices rows reporter =
    if nat_lt reporter upto then write_of prefix (slice_at slices reporter) (row_at rows reporter)
    else None

unfoldable pub writes_of : ℕ → ℕ → Slices → Rows → Slices
writes_of prefix upto slices rows =
    map (write_at prefix upto slices rows) (numbers (length rows))

-- a slice with another written over it
abbrev pub over : Option Slice → Option Slice → Option Slice
over None old = old
over (Some new) old = Some new

-- slices with others written over them
unfoldable pub written_over : Slices → Slices → Slices
written_over writes slices =
    map (λ reporter. over (slice_at writes reporter) (slice_at slices reporter))
    (numbers (length slices))

-- whether the slices of all reporters below a number have the limits of their rows
abbrev pub agree_below : Slices → Rows → ℕ → Bool
agree_below slices rows zero = true
agree_below slices rows (suc number) =
    if differs (slice_at slices number) (row_at rows number) then false
    else agree_below slices rows number

-- whether all slices together are the table
abbrev pub is_table : Slices → Rows → Bool
is_table slices rows = agree_below slices rows (length rows)

-- ---- what an event leaves

abbrev pub with_allocator : World → ℕ → Allocator → World
with_allocator world number allocator =
    record world { allocators = slice_set world.allocators number allocator }

-- a report
abbrev pub reported : World → Report → World
reported world report =
    record world {
      revision = world.revision + 1;
      reports = world.reports ++ record { revision = world.revision + 1; report = report } ∷ [];
    }

-- a campaign: the key is the allocator's where there is none
abbrev pub campaigned : World → ℕ → Option Leader → World
campaigned world allocator (Some leader) = world
campaigned world allocator None =
    record world {
      revision = world.revision + 1;
      leader = Some (record {
        holder = allocator;
        created = world.revision + 1;
        revision = world.revision + 1;
      });
    }

-- the end of a lease: the key goes
abbrev pub expired : World → Option Leader → World
expired world None = world
expired world (Some leader) = record world { revision = world.revision + 1; leader = None }

-- what an allocator knows that reads the leader key and the slices
abbrev pub known_of : ℕ → Slices → Option Leader → Option Known
known_of allocator slices None = None
known_of allocator slices (Some leader) =
    if leader.holder == allocator
    then Some (record { fence = leader.revision; since = leader.revision; slices = slices })
    else None

-- a reading of the leader key and the slices
abbrev pub having_read : World → ℕ → Allocator
having_read world number =
    record (allocator_at world number) {
      known = known_of number world.slices world.leader;
      waits = None;
    }

-- a reading of the reports
abbrev pub having_looked : (List Report → ℕ → ℕ) → World → ℕ → Allocator
having_looked limits world number =
    record (allocator_at world number) {
      reading = Some (record {
        revision = world.revision;
        rows = rows_of limits (reports_of world.reports) world.tasks;
      });
    }

-- the transaction for what was read
abbrev pub transaction_of : ℕ → ℕ → Known → Reading → Transaction
transaction_of holder upto known reading =
    let writes = writes_of reading.revision upto known.slices reading.rows in
    let after = written_over writes known.slices in
    record {
      holder = holder;
      fence = known.fence;
      prefix = reading.revision;
      writes = writes;
      posts = is_table after reading.rows;
      since = known.since;
      after = after;
    }

-- what an allocator may send: it waits for no outcome, and the reading is not older than what it
-- knows
abbrev pub sendable : ℕ → ℕ → Option Known → Option Reading → Option ℕ → Option Transaction
sendable number upto (Some known) (Some reading) None =
    if nat_lt reading.revision known.since then None
    else Some (transaction_of number upto known reading)
sendable number upto (Some known) (Some reading) (Some waits) = None
sendable number upto (Some known) None waits = None
sendable number upto None reading waits = None

-- an allocator sends a transaction, and waits for its outcome
abbrev pub sent_by : World → ℕ → Option Transaction → World
sent_by world number None = world
sent_by world number (Some transaction) =
    record (with_allocator world number
    (record (allocator_at world number) { waits = Some (length world.sent) })) {
      sent = world.sent ++ record { transaction = transaction; outcome = OnItsWay } ∷ [];
    }

-- the key's create revision once it is written at a revision
abbrev pub created_of : Option Leader → ℕ → ℕ
created_of None revision = revision
created_of (Some leader) revision = leader.created

-- what is posted after a transaction
abbrev pub posted_after : Transaction → ℕ → Slices → Option Posting → Option Posting
posted_after transaction revision slices posted =
    if transaction.posts
    then Some (record { prefix = transaction.prefix; revision = revision; slices = slices })
    else posted

-- a transaction with its outcome
abbrev pub with_outcome : World → ℕ → Transaction → Outcome → World
with_outcome world number transaction outcome =
    record world {
      sent = slice_set world.sent number (record { transaction = transaction; outcome = outcome });
    }

-- a transaction that is done at a revision
abbrev pub done : World → ℕ → Transaction → ℕ → World
done world number transaction revision =
    let slices = written_over transaction.writes world.slices in
    record (with_outcome world number transaction (Done revision)) {
      revision = revision;
      leader = Some (record {
        holder = transaction.holder;
        created = created_of world.leader revision;
        revision = revision;
      });
      slices = slices;
      posted = posted_after transaction revision slices world.posted;
    }

-- the store takes a transaction that is on its way: it is done where the leader key's modification
-- revision is the fence
abbrev pub taken : World → ℕ → Transaction → Outcome → World
taken world number transaction OnItsWay =
    if leader_revision world.leader == transaction.fence
    then done world number transaction (world.revision + 1)
    else with_outcome world number transaction Refused
taken world number transaction (Done revision) = world
taken world number transaction Refused = world
taken world number transaction Lost = world

-- a transaction is lost on its way
abbrev pub lost : World → ℕ → Transaction → Outcome → World
lost world number transaction OnItsWay = with_outcome world number transaction Lost
lost world number transaction (Done revision) = world
lost world number transaction Refused = world
lost world number transaction Lost = world

-- the revision at or before which all is posted, once a transaction is done
abbrev pub since_after : Transaction → ℕ → ℕ
since_after transaction revision = if transaction.posts then revision else transaction.since

-- an allocator that no longer waits, and knows this
abbrev pub no_longer_waits : World → ℕ → Option Known → World
no_longer_waits world number known =
    with_allocator world number
    (record (allocator_at world number) { known = known; waits = None })

-- an allocator learns the outcome of a transaction, where there is one
abbrev pub told_outcome : World → ℕ → Transaction → Outcome → World
told_outcome world number transaction (Done revision) =
    no_longer_waits world number
    (Some (record {
      fence = revision;
      since = since_after transaction revision;
      slices = transaction.after;
    }))
told_outcome world number transaction Refused = no_longer_waits world number None
told_outcome world number transaction OnItsWay = world
told_outcome world number transaction Lost = world

abbrev pub learned : World → ℕ → Option ℕ → World
learned world number None = world
learned world number (Some waits) =
    told_outcome world number (sent_at world waits).transaction (sent_at world waits).outcome

-- an allocator does not learn the outcome
abbrev pub given_up : World → ℕ → Option ℕ → World
given_up world number None = world
given_up world number (Some waits) = no_longer_waits world number None

-- a reader is told of what is posted
abbrev pub told_of : World → ℕ → ℕ → World
told_of world number revision =
    if nat_lt (posted_prefix world.posted) revision then world
    else record world {
      readers = slice_set world.readers number
          (record (reader_at world number) { told = max (reader_at world number).told revision });
    }

-- a reader reads
abbrev pub seen_by : World → ℕ → World
seen_by world number =
    record world {
      readers = slice_set world.readers number
          (record (reader_at world number) { seen = posted_prefix world.posted });
    }

-- the world after an event; `limits` is the limit of a task in the table of some reports
abbrev pub world_after : (List Report → ℕ → ℕ) → World → ControlEvent → World
world_after limits world (event.Report report) = reported world report
world_after limits world (event.Campaign allocator) = campaigned world allocator world.leader
world_after limits world event.Expire = expired world world.leader
world_after limits world (event.Read allocator) =
    with_allocator world allocator (having_read world allocator)
world_after limits world (event.Look allocator) =
    with_allocator world allocator (having_looked limits world allocator)
world_after limits world (event.Send allocator upto) =
    let it = allocator_at world allocator in
    sent_by world allocator (sendable allocator upto it.known it.reading it.waits)
world_after limits world (event.Take transaction) =
    taken world transaction (sent_at world transaction).transaction
    (sent_at world transaction).outcome
world_after limits world (event.Lose transaction) =
    lost world transaction (sent_at world transaction).transaction
    (sent_at world transaction).outcome
world_after limits world (event.Learn allocator) =
    learned world allocator (allocator_at world allocator).waits
world_after limits world (event.GiveUp allocator) =
    given_up world allocator (allocator_at world allocator).waits
world_after limits world (event.Crash allocator) = with_allocator world allocator fresh
world_after limits world (event.Tell reader revision) = told_of world reader revision
world_after limits world (event.See reader) = seen_by world reader

-- ---- which events there are

-- what the event names is there, and its report fits
abbrev pub IsMeant : (Report → Type 0) → World → ControlEvent → Type 0
IsMeant fit world (event.Report report) = (length world.reports < MAX_REPORTS) × fit report
IsMeant fit world (event.Campaign allocator) = allocator < length world.allocators
IsMeant fit world event.Expire = Unit {0}
IsMeant fit world (event.Read allocator) = allocator < length world.allocators
IsMeant fit world (event.Look allocator) = allocator < length world.allocators
IsMeant fit world (event.Send allocator upto) = allocator < length world.allocators
IsMeant fit world (event.Take transaction) = transaction < length world.sent
IsMeant fit world (event.Lose transaction) = transaction < length world.sent
IsMeant fit world (event.Learn allocator) = allocator < length world.allocators
IsMeant fit world (event.GiveUp allocator) = allocator < length world.allocators
IsMeant fit world (event.Crash allocator) = allocator < length world.allocators
IsMeant fit world (event.Tell reader revision) = reader < length world.readers
IsMeant fit world (event.See reader) = reader < length world.readers

-- ---- what each control keeps

-- the maker has taken in all reports, and each task is one of the plan's
pub record IsKept (has_absorbed : List Report → Type 0) (count : ℕ) (world : World) : Type 0 where
  pub absorbed : has_absorbed (reports_of world.reports)
  pub tasks : All (λ tasks. All (λ task. task < count) tasks) world.tasks
