-- The command `estimate`, and what an accepted document and the second part behind it get.
use Rattle.std.specs.Prelude.{ℕ, ◌-◌, ◌++◌, List, length, Result, Ok, Err}
use Rattle.bwe_specs.specs.declared.report.Report.{Report}
use Rattle.bwe_specs.specs.Allocation.{Plan}
use Rattle.bwe_specs.specs.DocumentLimits.{limits_of}
use Rattle.one_run.specs.Endings.{Reply}
use Rattle.doc_parts.specs.Document.{Accepted}
use Rattle.sample_lines.specs.RefusalLine.{sample_refusal}
use Rattle.sample_lines.specs.Known.{Known}
use Rattle.sample_lines.specs.SampleReports.{reports_in}
use Rattle.doc_names.specs.NameTexts.{NameTexts}
use Rattle.doc_parts.specs.Plans.{plan_of}
use Rattle.solve_reply.specs.SolveReply.{table_reply}

-- the table of the script with these reports behind it, or the row for the first sample at fault
abbrev pub table_behind : NameTexts → Plan → List Report → Result (List Report) ℕ → Reply
table_behind names plan script (Ok reports) = table_reply names plan (script ++ reports)
table_behind names plan script (Err line) = record { status = 3; text = sample_refusal line }

-- `estimate`: the table of the allocation of the script and the reports of the estimates, of which
-- there are so many at most together
abbrev pub estimate_reply : NameTexts → Known → Plan → List Report → ℕ → ℕ → ℕ → List ℕ → Reply
estimate_reply names known plan script most window headroom part =
    table_behind names plan script (reports_in known (most - length script) window headroom part)

-- what an accepted document knows of samples
abbrev pub known_in : Accepted → Known
known_in accepted = record { names = accepted.names; task_owners = accepted.task_owners }

abbrev pub estimate_accepted : ℕ → ℕ → Accepted → List ℕ → Reply
estimate_accepted window headroom accepted part =
    estimate_reply accepted.names (known_in accepted) (plan_of accepted) accepted.script
    (limits_of accepted.version).reports window headroom part
