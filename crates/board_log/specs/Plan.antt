-- Which tables belong to a plan.
use Rattle.std.specs.Prelude.{ℕ, ◌≡◌, ◌↔◌, List}
use Rattle.bwe_specs.specs.declared.report.Report.{Report}

-- a table belongs to reports just where it is the plan's table of them
abbrev pub NamesTables : {T : Type 0} → (List Report → T → Type 0) → (List Report → T) → Type 0
NamesTables {T} belongs table_of = (reports : List Report) (table : T)
    → belongs reports table ↔ (table ≡ table_of reports)

-- all tables that belong to reports are of one plan: they have one frame, and its number of tasks
pub record AreOfOnePlan {T F : Type 0} (frame : T → F) (tasks_of : F → ℕ)
    (belongs : List Report → T → Type 0) (tasks : ℕ) : Type 0 where
  pub one_frame : (reports others : List Report) (table other : T) → belongs reports table
      → belongs others other → frame table ≡ frame other
  pub same_tasks : (reports : List Report) (table : T) → belongs reports table
      → tasks_of (frame table) ≡ tasks
