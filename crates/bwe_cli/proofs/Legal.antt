-- A legal log for the document's scripts is one of a run of the document.
use Rattle.std.proofs.Common.{◌≡◌, ◌<◌, ℕ, List, Vec, Global, length, get_or, ◌∙◌, subst}
use Rattle.bwe_specs.specs.declared.report.Report.{Report}
use Rattle.bwe_specs.specs.Allocation.{Table, allocation}
use Rattle.limit_table.specs.Tables.{total_of}
use Rattle.allocator.specs.Frames.{task_count}
use Rattle.crew_log.specs.declared.log.CrewLog.{CrewLog}
use Rattle.crew_log.specs.LegalCrewLog.{IsLegalCrewLog}
use Rattle.plan_doc.specs.declared.document.Document.{Document}
use Rattle.plan_doc.specs.Conditions.{IsUsable, reporter_count}
use Rattle.bwe_specs.specs.Lists.{lists_of}
use Rattle.document_scripts.specs.Scripts.{scripts_of}
use Rattle.document_scripts.proofs.Owned.{history-table, own-in, owner_in, plan_in, within-in}
use Rattle.document_scripts.proofs.Split.{split-count}
use Rattle.top_call.specs.Runs.{IsRunOf}

module _ (document : Document) (usable : IsUsable document) (scripts : List (Vec Report Global)) (split : lists_of scripts ≡ scripts_of (reporter_count document) document.script.items) where
  pub run-is : (readers reads : ℕ) (log : CrewLog Table)
      → IsLegalCrewLog (λ reports table. table ≡ allocation (plan_in document usable) reports) total_of (task_count (plan_in document usable)) (length (plan_in document usable).capacities) scripts readers reads log
      → IsRunOf (plan_in document usable) document.script.items (reporter_count document) readers reads log
  run-is readers reads log legal = record {
    scripts = scripts;
    split = split;
    legal = legal;
    table =
        legal.table_so
        ∙ history-table (plan_in document usable) (owner_in document usable) (reporter_count document) document.script.items log.history.items scripts split legal.scripts_so (own-in document usable) (within-in document usable)
        (λ k d lt. subst (λ count. (get_or log.history.items k d).reporter < count) (split-count (reporter_count document) document.script.items scripts split) (legal.no_other k d lt).0);
  }
