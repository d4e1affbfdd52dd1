-- The reply of a run is that of the definition.
use Rattle.std.proofs.Common.{◌≡◌, ℕ, ◌<◌, ◌≤◌, ◌∙◌, List, length, Ok, ap, subst, arith}
use Rattle.std.proofs.lemmas.List.{length-map}
use Rattle.bwe_specs.specs.Allocation.{Plan, Table}
use Rattle.crew_log.specs.declared.log.CrewLog.{CrewLog}
use Rattle.one_run.specs.Endings.{Reply}
use Rattle.plan_doc.specs.declared.document.Document.{Document}
use Rattle.plan_doc.specs.Accepted.{IsDocumentOf}
use Rattle.plan_doc.specs.Conditions.{reporter_count}
use Rattle.doc_parts.specs.Document.{Accepted}
use Rattle.doc_names.specs.NameTexts.{texts_of}
use Rattle.run_text.specs.RunText.{run_text_of}
use Rattle.crew_log.specs.LegalCrewLog.{IsClosed}
use Rattle.plan_doc.proofs.PlanFacts.{plan-is}
use Rattle.top_call.specs.Runs.{IsRunOf}
use Rattle.document_scripts.proofs.Split.{split-count}
use Rattle.doc_parts.specs.Plans.{plan_of}
use Rattle.plan_doc.specs.Plans.{plan_in}
use Rattle.top_call.specs.RunLine.{IsRunReply}

abbrev reply_of : ℕ → List ℕ → Reply
reply_of status text = record { status = status; text = text }

-- there is a number for each reporter
pub sent-few : (plan : Plan) (document : Document) (readers reads : ℕ) (log : CrewLog Table) → IsRunOf plan document.script.items (reporter_count document) readers reads log
    → reporter_count document ≤ 4_096 → length log.sent.items < 4_294_967_296
sent-few plan document readers reads log run few =
    omega (arith, ap length run.legal.sent, length-map run.scripts (λ script. length script.items), split-count (reporter_count document) document.script.items run.scripts run.split, few)

module _ (accepted : Accepted) (document : Document) (is : IsDocumentOf accepted document) where
  pub run-reply : (readers reads : ℕ) (log : CrewLog Table) → IsRunOf (plan_in document) document.script.items (reporter_count document) readers reads log
      → IsClosed log → (text : List ℕ) → text ≡ run_text_of (texts_of document.names) log → IsRunReply readers reads (Ok accepted) (reply_of 0 text)
  run-reply readers reads log run closed text printed =
      let planned : IsRunOf (plan_of accepted) document.script.items (reporter_count document) readers reads log =
      subst (λ plan. IsRunOf plan document.script.items (reporter_count document) readers reads log) (plan-is accepted document is) run in
      let scripted : IsRunOf (plan_of accepted) accepted.script (reporter_count document) readers reads log =
      subst (λ script. IsRunOf (plan_of accepted) script (reporter_count document) readers reads log) is.script planned in
      let counted : IsRunOf (plan_of accepted) accepted.script (length accepted.names.reporters) readers reads log =
      subst (λ names. IsRunOf (plan_of accepted) accepted.script (length names.reporters) readers reads log) is.names scripted in
      (log, counted, closed, ap (reply_of 0) (printed ∙ ap (λ names. run_text_of names log) is.names))
