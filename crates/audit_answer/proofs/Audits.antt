-- What the audit of a document's runs asks for, its verdict, and what its exit status says.
use Rattle.std.proofs.Common.{◌≡◌, ℕ, ◌≤◌, ◌∙◌, List, Vec, Global, length, refl, sym, ap, subst, arith}
use Rattle.std.proofs.lemmas.List.{length-replicate}
use Rattle.bwe_specs.specs.declared.limits.TheConstants.{MAX_REPORTS}
use Rattle.bwe_specs.specs.declared.report.Report.{Report}
use Rattle.bwe_specs.specs.Allocation.{Plan, Table, allocation}
use Rattle.allocator.specs.Frames.{task_count}
use Rattle.doc_names.specs.declared.Names.{Names}
use Rattle.audit_law.specs.DocumentRun.{IsDocumentRun, document_verdict, script_verdict}
use Rattle.crew_log.specs.Scripts.{AreOfReporters, reports_in}
use Rattle.bwe_specs.specs.Lists.{lists_of}
use Rattle.document_scripts.specs.Scripts.{scripts_of}
use Rattle.limit_table.specs.Tables as tables
use Rattle.one_run.specs.Endings.{Reply}
use Rattle.plan_doc.specs.declared.document.Document.{Document}
use Rattle.plan_doc.specs.Accepted.{IsDocumentOf}
use Rattle.plan_doc.specs.Conditions.{link_count, reporter_count, tasks_in}
use Rattle.doc_parts.specs.Document.{Accepted}
use Rattle.policy_tree.specs.Trees.{task_numbers}
use Rattle.run_audit.proofs.Counts.{total_counted}
use Rattle.run_audit.specs.History as history
use Rattle.run_audit.specs.Verdict.{AreFit, verdict_of}
use Rattle.run_audit.specs.declared.verdict.AuditVerdict.{AuditVerdict}
use Rattle.run_audit.specs.declared.verdict.AuditVerdict.TheVariants.{Legal, Wrong}
use Rattle.doc_names.specs.NameTexts.{texts_of}
use Rattle.table_text.specs.TableText.{text_of}
use Rattle.audit_answer.specs.AuditReply.{IsAuditReply, audit_reply, audit_status}
use Rattle.doc_parts.specs.Plans.{plan_of}
use Rattle.plan_doc.specs.Plans.{plan_in}
use Rattle.plan_doc.proofs.PlanFacts.{plan-is}

-- an accepted document has a demand for each of its tasks
pub tasks-are : (accepted : Accepted) (document : Document) → IsDocumentOf accepted document → task_count (plan_in document) ≡ tasks_in document
tasks-are accepted document is =
    subst (λ tree. length (task_numbers tree.clusters) ≡ length tree.demands) (sym is.tree) (sym (length-replicate (length (task_numbers accepted.clusters)) 0))

-- ---- the scripts

module _ (document : Document) (plan : Plan) (same : plan ≡ plan_in document) (scripts : List (Vec Report Global)) where
  pub are-fit : task_count (plan_in document) ≡ tasks_in document → AreOfReporters (tasks_in document) (link_count document) scripts → AreFit (task_count plan) (length plan.capacities) scripts
  are-fit tasks are =
      let fit : AreFit (tasks_in document) (link_count document) scripts = λ number script lt. (are number script lt).1 in
      let counted : AreFit (task_count (plan_in document)) (link_count document) scripts = subst (λ count. AreFit count (link_count document) scripts) (sym tasks) fit in
      subst (λ planned. AreFit (task_count planned) (length planned.capacities) scripts) (sym same) counted

  pub are-few : reports_in scripts ≤ MAX_REPORTS → history.total_of (lists_of scripts) ≤ MAX_REPORTS
  are-few few = subst (λ count. count ≤ MAX_REPORTS) (sym (total_counted scripts)) few

  -- the verdict is that on a run of the document
  pub verdict-is : (names : Names) → names ≡ document.names → (split : lists_of scripts ≡ scripts_of (reporter_count document) document.script.items)
      → (table : Table) → table ≡ allocation (plan_in document) document.script.items → (bytes : List ℕ) → bytes ≡ text_of (texts_of names) table → (text : List ℕ)
      → verdict_of (texts_of names) (lists_of scripts) (λ reports. tables.total_of (allocation plan reports)) bytes text
      ≡ script_verdict (texts_of document.names) (plan_in document) document.script.items text
  verdict-is names named split table solved bytes printed text =
      ap (λ planned. verdict_of (texts_of names) (lists_of scripts) (λ reports. tables.total_of (allocation planned reports)) bytes text) same
      ∙ ap (λ lists. verdict_of (texts_of names) lists (λ reports. tables.total_of (allocation (plan_in document) reports)) bytes text) split
      ∙ ap (λ shown. verdict_of (texts_of names) (scripts_of (reporter_count document) document.script.items) (λ reports. tables.total_of (allocation (plan_in document) reports)) shown text) printed
      ∙ ap (λ made. verdict_of (texts_of names) (scripts_of (reporter_count document) document.script.items) (λ reports. tables.total_of (allocation (plan_in document) reports)) (text_of (texts_of names) made) text) solved
      ∙ ap (λ given. verdict_of (texts_of given) (scripts_of (reporter_count document) document.script.items) (λ reports. tables.total_of (allocation (plan_in document) reports)) (text_of (texts_of given) (allocation (plan_in document) document.script.items)) text) named

-- ---- what the exit status says

pub legal_at-0 : (verdict : AuditVerdict) → audit_status verdict ≡ 0 → verdict ≡ Legal
legal_at-0 Legal e = refl
legal_at-0 (Wrong line cause) e = absurd (omega arith)

at-1 : (verdict : AuditVerdict) → (verdict ≡ Legal → ⊥) → audit_status verdict ≡ 1
at-1 Legal not = absurd (not refl)
at-1 (Wrong line cause) not = refl

-- the reply of the parts that the code has read is one to the document
pub reply-parts : (accepted : Accepted) (document : Document) → IsDocumentOf accepted document → (text : List ℕ)
    → audit_reply (texts_of document.names) (plan_in document) document.script.items text ≡ audit_reply accepted.names (plan_of accepted) accepted.script text
reply-parts accepted document is text =
    ap (λ names. audit_reply names (plan_in document) document.script.items text) is.names
    ∙ ap (λ plan. audit_reply accepted.names plan document.script.items text) (plan-is accepted document is)
    ∙ ap (λ script. audit_reply accepted.names (plan_of accepted) script text) is.script

-- where a text is legal exactly where it is that of a run, the exit status says so
pub audit-says : (accepted : Accepted) (text : List ℕ) (given : Reply) → given ≡ audit_reply accepted.names (plan_of accepted) accepted.script text
    → (document_verdict accepted text ≡ Legal → IsDocumentRun accepted text) → (IsDocumentRun accepted text → document_verdict accepted text ≡ Legal) → IsAuditReply accepted text given
audit-says accepted text given is to_run to_legal = record {
  legal = (λ zero. to_run (legal_at-0 judged (sym status ∙ zero)), λ run. status ∙ ap audit_status (to_legal run));
  wrong = (λ one run. let zero : given.status ≡ 0 = status ∙ ap audit_status (to_legal run) in omega arith, λ none. status ∙ at-1 judged (λ legal. none (to_run legal)));
  first_fault = is;
}
  where
    judged : AuditVerdict
    judged = document_verdict accepted text

    status : given.status ≡ audit_status judged
    status = ap (λ reply. reply.status) is
