-- What `run` wrote is the text of a closed legal run of its document, so `audit` finds it legal.
use Rattle.std.proofs.Common.{◌≡◌, ℕ, ◌+◌, ◌++◌, ◌∷◌, ◌∙◌, List, [], length, take, drop, append_assoc, Result, Ok, Err, refl, sym, ap, subst, arith, length-append}
use Rattle.std.specs.Prelude.{codes}
use Rattle.std.proofs.Math.Seq.{drop-append_seam, take-append_seam}
use Rattle.bwe_specs.specs.Allocation.{Table}
use Rattle.command_line.specs.Ranges.{IsInRange}
use Rattle.command_line.specs.declared.CommandLine.TheVariants.{Run}
use Rattle.crew_log.specs.declared.log.CrewLog.{CrewLog}
use Rattle.crew_log.specs.LegalCrewLog.{IsClosed}
use Rattle.audit_law.specs.DocumentRun.{IsDocumentRun, document_verdict}
use Rattle.top_call.specs.Runs.{IsRunOf}
use Rattle.one_run.specs.Endings.{Reply}
use Rattle.doc_parts.specs.Document.{Accepted, document}
use Rattle.doc_parts.specs.Plans.{plan_of}
use Rattle.doc_refusals.specs.Refusals.{Refusal}
use Rattle.run_audit.specs.AuditText.{verdict_line}
use Rattle.run_audit.specs.declared.verdict.AuditVerdict.{AuditVerdict}
use Rattle.run_audit.specs.declared.verdict.AuditVerdict.TheVariants.{Legal}
use Rattle.run_text.specs.RunText.{run_text_of}
use Rattle.two_part.specs.TwoPart.{IsTwoPart, document_in, parts_behind}
use Rattle.two_part.proofs.PartsFacts.{parts_complete}
use Rattle.audit_answer.specs.AuditReply.{IsAuditReply, audit_status}
use Rattle.top_call.specs.Laws.{RunsAreLegal}
use Rattle.parted_input.specs.Parted.{IsReplyBehind, accepted_parts}
use Rattle.top_call.specs.RunLine.{IsRunReply}
use Rattle.audit_answer.proofs.Audits.{legal_at-0}
use Rattle.parted_input.proofs.Behind.{accepted_behind}

-- ---- the text of a run

pub is-run : (accepted : Accepted) (readers reads : ℕ) (log : CrewLog Table) (text : List ℕ) → IsInRange (Run readers reads)
    → IsRunOf (plan_of accepted) accepted.script (length accepted.names.reporters) readers reads log → IsClosed log
    → text ≡ run_text_of accepted.names log → IsDocumentRun accepted text
is-run accepted readers reads log text range run closed text_so = record {
  scripts = run.scripts;
  split = run.split;
  run = record {
    log = log;
    readers = readers;
    reads = reads;
    some_readers = range.0;
    few_readers = range.1;
    few_reads = range.2;
    legal = run.legal;
    closed = closed;
    text_so = text_so;
  };
}

-- ---- the parts

module _ (digits bytes rest : List ℕ) where
  front : List ℕ
  front = digits ++ 10 ∷ []

  whole : List ℕ
  whole = front ++ bytes

  front-length : length front ≡ length digits + 1
  unfolding front
  front-length = length-append digits (10 ∷ [])

  whole-length : length whole ≡ length digits + 1 + length bytes
  unfolding whole
  whole-length = omega (arith, length-append front bytes, front-length)

  in-parts : digits ++ 10 ∷ (bytes ++ rest) ≡ whole ++ rest
  unfolding whole front
  in-parts = sym (ap (λ (first : List ℕ). first ++ rest) (append_assoc digits (10 ∷ []) bytes) ∙ append_assoc digits (10 ∷ bytes) rest)

  -- the bytes of the document
  document-at : document_in (digits ++ 10 ∷ (bytes ++ rest)) (parts_behind digits (length bytes)) ≡ bytes
  unfolding whole
  document-at =
      ap (λ (input : List ℕ). drop (length digits + 1) (take (length digits + 1 + length bytes) input)) in-parts
      ∙ ap (λ (end : ℕ). drop (length digits + 1) (take end (whole ++ rest))) (sym whole-length)
      ∙ ap (drop (length digits + 1)) (take-append_seam whole rest)
      ∙ ap (λ (start : ℕ). drop start whole) (sym front-length)
      ∙ drop-append_seam front bytes

  -- and those behind it
  rest-at : drop (length digits + 1 + length bytes) (digits ++ 10 ∷ (bytes ++ rest)) ≡ rest
  rest-at =
      ap (drop (length digits + 1 + length bytes)) in-parts
      ∙ ap (λ (end : ℕ). drop end (whole ++ rest)) (sym whole-length)
      ∙ drop-append_seam whole rest

parts-are : (accepted : Accepted) (input digits bytes rest : List ℕ) → IsTwoPart input digits bytes rest → document bytes ≡ Ok accepted
    → accepted_parts input ≡ Ok (record { accepted = accepted; part = rest })
parts-are accepted input digits bytes rest two read =
    accepted_behind input (parts_behind digits (length bytes)) bytes rest accepted (sym (parts_complete input digits bytes rest two)) read
    (sym (document-at digits bytes rest) ∙ ap (λ (whole : List ℕ). document_in whole (parts_behind digits (length bytes))) (sym two.in_order))
    (sym (rest-at digits bytes rest) ∙ ap (λ (whole : List ℕ). drop (length digits + 1 + length bytes) whole) (sym two.in_order))

-- ---- the law

abbrev judged_reply : AuditVerdict → Reply
judged_reply judged = record { status = audit_status judged; text = verdict_line judged }

found-legal : (accepted : Accepted) (text : List ℕ) (audited : Reply) → IsAuditReply accepted text audited → IsDocumentRun accepted text
    → audited ≡ record { status = 0; text = codes "legal\n" }
unfolding verdict_line
found-legal accepted text audited is run =
    let legal : document_verdict accepted text ≡ Legal = legal_at-0 (document_verdict accepted text) (sym (ap (λ (reply : Reply). reply.status) is.first_fault) ∙ is.legal.1 run) in
    is.first_fault ∙ ap judged_reply legal

pub runs-are-legal : RunsAreLegal
runs-are-legal readers reads bytes digits input ran audited range replied zero two audit = by (document bytes) refl replied
  where
    by : (read : Result Accepted Refusal) → document bytes ≡ read → IsRunReply readers reads read ran → audited ≡ record { status = 0; text = codes "legal\n" }
    by (Err refusal) e refused = absurd (let three : ran.status ≡ 3 = ap (λ (reply : Reply). reply.status) refused in omega arith)
    by (Ok accepted) e run =
        let judged : IsAuditReply accepted ran.text audited =
        subst (λ parts. IsReplyBehind IsAuditReply parts audited) (parts-are accepted input digits bytes ran.text two e) audit in
        found-legal accepted ran.text audited judged (is-run accepted readers reads run.0 ran.text range run.1 run.2 (ap (λ (reply : Reply). reply.text) run.3))
