-- The command `run`, and what its input may get.
use Rattle.std.specs.Prelude.{◌≡◌, ℕ, length, Result, Ok, Err}
use Rattle.bwe_specs.specs.Allocation.{Table}
use Rattle.crew_log.specs.declared.log.CrewLog.{CrewLog}
use Rattle.crew_log.specs.LegalCrewLog.{IsClosed}
use Rattle.one_run.specs.Endings.{Reply}
use Rattle.doc_parts.specs.Document.{Accepted}
use Rattle.doc_refusals.specs.Refusals.{Refusal}
use Rattle.run_text.specs.RunText.{run_text_of}
use Rattle.top_call.specs.Runs.{IsRunOf}
use Rattle.doc_parts.specs.Plans.{plan_of}
use Rattle.solve_reply.specs.Refused.{refused_reply}

-- `run`: the text of a closed run of the script, whose table is that of `solve`; or the row of the
-- refusal
abbrev pub IsRunReply : ℕ → ℕ → Result Accepted Refusal → Reply → Type 0
IsRunReply readers reads (Ok accepted) given =
    (log : CrewLog Table)
    × IsRunOf (plan_of accepted) accepted.script (length accepted.names.reporters) readers reads
    log
    × IsClosed log
    × (given ≡ record { status = 0; text = run_text_of accepted.names log })
IsRunReply readers reads (Err refusal) given = given ≡ refused_reply refusal
