-- What a report leaves: an Ok of the calls on one demand and on one capacity.
use Rattle.std.proofs.Common.{◌≡◌, ℕ, ◌<◌, List, [], ◌∷◌, ◌++◌, length, ap, Result, Ok, Err, OnOk}
use Rattle.bwe_specs.specs.declared.report.Report.{Report}
use Rattle.bwe_specs.specs.declared.report.Target.{Target}
use Rattle.bwe_specs.specs.declared.report.Target.TheVariants.{Task, Link}
use Rattle.plain_table.specs.Reported.{Reported, IsAfter, with_report}
use Rattle.plain_table.proofs.After.{IsAfter-told}

abbrev report_of : ℕ → ℕ → Target → Report
report_of reporter amount target = record { reporter = reporter; target = target; amount = amount }

-- a report with the target that it has
same_target : (report : Report) (target : Target) → report.target ≡ target → report ≡ report_of report.reporter report.amount target
same_target report target is = ap (report_of report.reporter report.amount) is

pub after-task : {E : Type 0} (reported new : Reported) (report : Report) (number : ℕ) (result : Result (Unit {0}) E)
    → report.target ≡ Task number → number < length reported.tree.demands
    → OnOk result (new ≡ with_report reported (record report { target = Task number }))
    → OnOk result ((reports : List Report) → IsAfter reported reports → IsAfter new (reports ++ report ∷ []))
after-task reported new report number (Ok x) is inside ok = λ reports after.
    rw (ok, same_target report (Task number) is) (IsAfter-told reported reports report.reporter (Task number) report.amount inside after)
after-task reported new report number (Err error) is inside ok = tt

pub after-link : {E : Type 0} (reported new : Reported) (report : Report) (number : ℕ) (result : Result (Unit {0}) E)
    → report.target ≡ Link number → number < length reported.network.capacities
    → OnOk result (new ≡ with_report reported (record report { target = Link number }))
    → OnOk result ((reports : List Report) → IsAfter reported reports → IsAfter new (reports ++ report ∷ []))
after-link reported new report number (Ok x) is inside ok = λ reports after.
    rw (ok, same_target report (Link number) is) (IsAfter-told reported reports report.reporter (Link number) report.amount inside after)
after-link reported new report number (Err error) is inside ok = tt
