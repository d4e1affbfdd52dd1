-- What stands after a report, and the tables of one plan.
use Rattle.std.proofs.Common.{◌≡◌, ℕ, List, [], ◌∷◌, ◌++◌, All, length, sym, ◌∙◌, ap, subst}
use Rattle.std.proofs.lemmas.List.Elements.{All-append, All-cons, All-nil}
use Rattle.bwe_specs.specs.declared.report.Report.{Report}
use Rattle.bwe_specs.specs.Allocation.{Plan, Table, allocation}
use Rattle.bwe_specs.specs.Fit.{IsFit}
use Rattle.last_reports.specs.Snapshot.{Told, told_after, snapshot}
use Rattle.last_reports.proofs.Snapshots.{snapshot-same}
use Rattle.allocator.specs.Allocators.{Allocating, plan_in}
use Rattle.allocator.specs.Frames.{task_count}
use Rattle.plain_table.specs.Reported.{IsAfter}
use Rattle.live_core.specs.Live.{Live, IsLive, plan_of, tasks_of, links_of}

abbrev pub parts : Allocating → Told → Table → Live
parts allocating told table = record { allocating = allocating; told = told; table = table }

-- so many tasks and links as a plan has
abbrev pub IsFitFor : Plan → Report → Type 0
IsFitFor plan report = IsFit (task_count plan) (length plan.capacities) report

abbrev pub told_for : Plan → List Report → Told
told_for plan reports = told_after (task_count plan) (length plan.capacities) reports

-- what is live by a plan that is equal to its own
pub live-by : (live : Live) (plan : Plan) (accepted written : List Report) → plan_of live ≡ plan → IsAfter live.allocating.reported accepted
    → All (IsFitFor plan) accepted → live.told ≡ told_for plan accepted → live.table ≡ allocation plan written → IsLive live accepted written
live-by live plan accepted written same absorbed fit told table = record {
  absorbed = absorbed;
  fit = subst (λ plan. All (IsFitFor plan) accepted) (sym same) fit;
  told = told ∙ ap (λ plan. told_for plan accepted) (sym same);
  table = table ∙ ap (λ plan. allocation plan written) (sym same);
}

-- one report more
pub live-report : (old new : Allocating) (told new_told : Told) (table : Table) (report : Report) → plan_in new ≡ plan_in old → IsFitFor (plan_in old) report
    → ((reports : List Report) → IsAfter old.reported reports → IsAfter new.reported (reports ++ report ∷ []))
    → ((tasks links : ℕ) (reports : List Report) → told ≡ told_after tasks links reports → new_told ≡ told_after tasks links (reports ++ report ∷ []))
    → (accepted written : List Report) → IsLive (parts old told table) accepted written → IsLive (parts new new_told table) (accepted ++ report ∷ []) written
live-report old new told new_told table report same fits absorbed put accepted written is =
    live-by (parts new new_told table) (plan_in old) (accepted ++ report ∷ []) written same
    (absorbed accepted is.absorbed)
    (All-append (IsFitFor (plan_in old)) accepted (report ∷ []) is.fit (λ k d within. last k d within))
    (put (task_count (plan_in old)) (length (plan_in old).capacities) accepted is.told)
    is.table where
      last : All (IsFitFor (plan_in old)) (report ∷ [])
      last = All-cons (IsFitFor (plan_in old)) report [] fits (All-nil (IsFitFor (plan_in old)))

-- the snapshot of what was taken in has the same table, but for the count of reports
pub same-state : (live : Live) (accepted written state : List Report) → IsLive live accepted written → state ≡ snapshot (tasks_of live) (links_of live) accepted
    → record (allocation (plan_of live) state) { prefix = length accepted } ≡ allocation (plan_of live) accepted
same-state live accepted written state is same =
    ap (λ reports. record (allocation (plan_of live) reports) { prefix = length accepted }) same
    ∙ snapshot-same (plan_of live) (tasks_of live) (links_of live) accepted (λ k d within. (is.fit k d within).0)
