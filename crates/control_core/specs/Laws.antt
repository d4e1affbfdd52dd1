-- The law on all runs of the control plane.
use Rattle.std.specs.Prelude.{◌≡◌, ℕ, ◌<◌, ◌≤◌, List, [], ◌∷◌, true, Option, Some, None, length}
use Rattle.std.specs.List.{AllByRecursion}
use Rattle.std.specs.Option.{IfSome}
use Rattle.bwe_specs.specs.declared.report.Report.{Report}
use Rattle.control_core.specs.declared.event.ControlEvent.{ControlEvent}
use Rattle.control_core.specs.World.{Slice, Slices, Rows, Posting, World, first_world, posted_prefix, reader_at, reports_at, rows_of, row_at, slice_at, world_after}

-- the world after all events
abbrev pub run : (List Report → ℕ → ℕ) → World → List ControlEvent → World
run limits world [] = world
run limits world (event ∷ events) = run limits (world_after limits world event) events

-- the slice has the limits of the row
abbrev pub IsSliceOf : List ℕ → Slice → Type 0
IsSliceOf row slice = slice.limits ≡ row

abbrev pub IsThere : List ℕ → Option Slice → Type 0
IsThere row None = ⊥
IsThere row (Some slice) = IsSliceOf row slice

-- all slices together are the table
abbrev pub AreTable : Slices → Rows → Type 0
AreTable slices rows =
    (reporter : ℕ) → reporter < length rows → IsThere (row_at rows reporter) (slice_at slices reporter)

-- the table of the reports up to a revision
abbrev pub table_at : (List Report → ℕ → ℕ) → World → ℕ → Rows
table_at limits world revision = rows_of limits (reports_at world.reports revision) world.tasks

-- each transaction that was sent posts: no table was sent in parts
abbrev pub AreWhole : World → Type 0
AreWhole world = AllByRecursion (λ sent. sent.transaction.posts ≡ true) world.sent

-- what holds of a posting at a moment
pub record IsPosting (limits : List Report → ℕ → ℕ) (moment : World) (posting : Posting) : Type 0
  where
    -- the slices as they stood at the revision of the posting are together the table of the posted
    -- prefix
    pub table : AreTable posting.slices (table_at limits moment posting.prefix)
    -- and where no table was sent in parts, they are the slices as they stand
    pub whole : AreWhole moment → moment.slices ≡ posting.slices
    -- the posted prefix is below the revision at which it was posted, and that not above the store's
    pub below : posting.prefix < posting.revision
    pub within : posting.revision ≤ moment.revision

-- what holds of a moment and of all that comes later
pub record IsLawful (limits : List Report → ℕ → ℕ) (moment end : World) : Type 0 where
  pub posted : IfSome moment.posted (IsPosting limits moment)
  -- the posted prefix never falls
  pub never_falls : posted_prefix moment.posted ≤ posted_prefix end.posted
  -- the reports up to a revision of the history are the same for ever
  pub stand : (revision : ℕ) → revision ≤ moment.revision
      → reports_at end.reports revision ≡ reports_at moment.reports revision
  -- what a reader was told is posted, and what it saw, the posted prefix reaches for ever: a reader
  -- that reads then sees at least that
  pub told : (reader : ℕ) → (reader_at moment reader).told ≤ posted_prefix end.posted
  pub seen : (reader : ℕ) → (reader_at moment reader).seen ≤ posted_prefix end.posted

-- for every list of events from the first world on, and every moment of it
abbrev pub IsControlLaw : (List Report → ℕ → ℕ) → Type 0
IsControlLaw limits =
    (tasks : List (List ℕ)) (allocators readers : ℕ) (before later : List ControlEvent)
    → let moment = run limits (first_world tasks allocators readers) before in
    IsLawful limits moment (run limits moment later)
