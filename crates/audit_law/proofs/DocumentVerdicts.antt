-- The verdict on a text for a document, by scripts that are its script split by reporter.
use Rattle.std.proofs.Common.{◌≡◌, ◌∙◌, ℕ, List, Vec, Global, length, ap, ap₂, subst}
use Rattle.std.proofs.lemmas.List.{length-replicate}
use Rattle.bwe_specs.specs.declared.report.Report.{Report}
use Rattle.bwe_specs.specs.Allocation.{allocation}
use Rattle.allocator.specs.Frames.{task_count}
use Rattle.bwe_specs.specs.Lists.{lists_of}
use Rattle.document_scripts.specs.Scripts.{scripts_of}
use Rattle.limit_table.specs.Tables.{total_of}
use Rattle.plan_doc.specs.declared.document.Document as read
use Rattle.plan_doc.specs.Accepted.{IsDocumentOf}
use Rattle.plan_doc.specs.Conditions.{link_count, tasks_in}
use Rattle.doc_parts.specs.Document.{Accepted}
use Rattle.doc_parts.specs.Plans.{plan_of}
use Rattle.plan_doc.specs.Plans.{plan_in}
use Rattle.plan_doc.proofs.PlanFacts.{plan-is}
use Rattle.tree_spec.specs.Trees.{task_numbers}
use Rattle.doc_names.specs.NameTexts.{texts_of}
use Rattle.run_audit.specs.Verdict.{verdict_of}
use Rattle.table_text.specs.TableText.{text_of}
use Rattle.audit_law.specs.ClosedRun.{IsClosedRun}
use Rattle.audit_law.specs.Laws.{verdict_on}
use Rattle.audit_law.specs.DocumentRun.{document_verdict}
use Rattle.audit_law.specs.DocumentLaws.{AreScriptsOf}

module _ (accepted : Accepted) (document : read.Document) (is : IsDocumentOf accepted document) where
  pub names-are : texts_of document.names ≡ accepted.names
  names-are = is.names

  pub tasks-are : tasks_in document ≡ task_count (plan_of accepted)
  tasks-are = ap (λ tree. length tree.demands) is.tree ∙ length-replicate (length (task_numbers accepted.clusters)) 0

  pub links-are : link_count document ≡ length (plan_of accepted).capacities
  links-are = ap (λ topology. length topology.capacities) is.topology

  module _ (scripts : List (Vec Report Global)) where
    -- the scripts of the parts of the code are those of the definition
    pub split-is : AreScriptsOf document scripts ≡ (lists_of scripts ≡ scripts_of (length accepted.names.reporters) accepted.script)
    split-is = ap₂ (λ names script. lists_of scripts ≡ scripts_of (length names.reporters) script) is.names is.script

    -- a closed run of the parts of the code is one of the definition
    pub run-is : (text : List ℕ) → IsClosedRun (texts_of document.names) (allocation (plan_in document)) (tasks_in document) (link_count document) scripts text
        ≡ IsClosedRun accepted.names (allocation (plan_of accepted)) (task_count (plan_of accepted)) (length (plan_of accepted).capacities) scripts text
    run-is text =
        ap₂ (λ names plan. IsClosedRun names (allocation plan) (tasks_in document) (link_count document) scripts text) names-are (plan-is accepted document is)
        ∙ ap₂ (λ tasks links. IsClosedRun accepted.names (allocation (plan_of accepted)) tasks links scripts text) tasks-are links-are

    -- and so is the verdict
    pub verdict-is : (text : List ℕ) → AreScriptsOf document scripts
        → verdict_on (texts_of document.names) (allocation (plan_in document)) (allocation (plan_in document) document.script.items) scripts text ≡ document_verdict accepted text
    verdict-is text split =
        ap₂ (λ names plan. verdict_on names (allocation plan) (allocation plan document.script.items) scripts text) names-are (plan-is accepted document is)
        ∙ ap (λ script. verdict_on accepted.names (allocation (plan_of accepted)) (allocation (plan_of accepted) script) scripts text) is.script
        ∙ ap (λ lists. verdict_of accepted.names lists (λ reports. total_of (allocation (plan_of accepted) reports))
        (text_of accepted.names (allocation (plan_of accepted) accepted.script)) text) (subst (λ (T : Type 0). T) split-is split)
