-- The command `enforce`, and what an accepted document and the second part behind it get.
use Rattle.std.specs.Prelude.{ℕ, List, length, slice_index, Result, Ok, Err}
use Rattle.bwe_specs.specs.declared.report.Report.{Report}
use Rattle.bwe_specs.specs.Allocation.{Plan, allocation}
use Rattle.enforce_run.specs.EnforceText.{enforced_text}
use Rattle.enforce_run.specs.Playing.{regions_of}
use Rattle.enforce_run.specs.declared.event.EventLine.{EventLine}
use Rattle.enforce_run.specs.EventLines.{events_of}
use Rattle.enforce_run.specs.RefusalLine.{event_refusal}
use Rattle.one_run.specs.Endings.{Reply}
use Rattle.doc_parts.specs.Document.{Accepted}
use Rattle.doc_names.specs.NameTexts.{NameTexts}
use Rattle.doc_parts.specs.Plans.{plan_of}

-- the text of the events on a world with a region for each reporter, with the allocations of the
-- script's first reports
abbrev pub enforced_reply : NameTexts → Plan → List Report → List ℕ → List EventLine → Reply
enforced_reply names plan script task_owners events = record {
  status = 0;
  text =
      enforced_text (λ table. table.prefix) (λ table task. slice_index table.limits task)
      (allocation plan) script
      (regions_of (length names.reporters) task_owners) names.tasks events;
}

-- or the row for the first line at fault
abbrev pub enforced_by : NameTexts → Plan → List Report → List ℕ → Result (List EventLine) ℕ → Reply
enforced_by names plan script task_owners (Ok events) =
    enforced_reply names plan script task_owners events
enforced_by names plan script task_owners (Err line) =
    record { status = 3; text = event_refusal line }

-- `enforce`: the events of the part, played on the regions of the document's reporters
abbrev pub enforce_reply : NameTexts → Plan → List Report → List ℕ → List ℕ → Reply
enforce_reply names plan script task_owners part =
    enforced_by names plan script task_owners (events_of (length names.reporters) part)

abbrev pub enforce_accepted : Accepted → List ℕ → Reply
enforce_accepted accepted part =
    enforce_reply accepted.names (plan_of accepted) accepted.script accepted.task_owners part
