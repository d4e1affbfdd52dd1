-- The commands that read nothing, and what they write.
use Rattle.std.specs.Prelude.{ℕ, List, Result, Ok, Err}
use Rattle.bwe_specs.specs.declared.report.Report.{Report}
use Rattle.bwe_specs.specs.Allocation.{Plan, allocation}
use Rattle.doc_maker.specs.Accepting.{made_accepted}
use Rattle.doc_maker.specs.Made.{Size, made_document}
use Rattle.one_run.specs.Endings.{Reply}
use Rattle.doc_parts.specs.Document.{Accepted}
use Rattle.doc_refusals.specs.Refusals.{Refusal}
use Rattle.reply_text.specs.BulkText.{bulk_text_of}
use Rattle.doc_parts.specs.Plans.{plan_of}
use Rattle.solve_reply.specs.Refused.{refused_reply}

-- the summary of the table of the allocation of a script
abbrev pub summary_reply : ℕ → ℕ → Plan → List Report → Reply
summary_reply groups tasks plan script =
    record { status = 0; text = bulk_text_of groups tasks (allocation plan script) }

-- the summary of a document's table, or the row of its refusal
abbrev pub summary_of : Size → Result Accepted Refusal → Reply
summary_of size (Ok accepted) =
    summary_reply size.groups size.tasks (plan_of accepted) accepted.script
summary_of size (Err refusal) = refused_reply refusal

-- `make`: the made document
abbrev pub make_reply : Size → Reply
make_reply size = record { status = 0; text = made_document size }

-- `bulk`: the summary of its table. No made document is refused, by the law
-- MadeDocumentsAreAccepted.
abbrev pub bulk_reply : Size → Reply
bulk_reply size =
    let read = made_accepted size in
    summary_reply size.groups size.tasks (plan_of read) read.script
