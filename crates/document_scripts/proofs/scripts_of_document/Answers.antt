use Rattle.std.proofs.Common.{◌≡◌, ◌≤◌, ℕ, ap₂, subst, List, IfOk, length}
use Rattle.bwe_specs.specs.declared.limits.TheConstants.{MAX_REPORTERS, MAX_REPORTS}
use Rattle.bwe_specs.specs.declared.report.Report.{Report}
use Rattle.plan_doc.specs.Conditions.{link_count, reporter_count, tasks_in}
use Rattle.crew_log.specs.Scripts.{AreOfReporters, reports_in}
use Rattle.bwe_specs.specs.Lists.{lists_of}
use Rattle.document_scripts.specs.Scripts.{scripts_of}
use Rattle.document_scripts.proofs.Owned.{are-scripts, few-scripts, if_ok, room-scripts}
use Rattle.document_scripts.proofs.scripts_of_document.Goals as goal

-- the scripts are those of the document's reporters
split : (c : goal.After-split_by_reporter) → IfOk c.split_by_reporter.result (λ scripts. lists_of scripts.items ≡ scripts_of (reporter_count c.args.document.now) c.args.document.now.script.items)
split c =
    let count : c.len-reporters.result ≡ reporter_count c.args.document.now = c.len-reporters.ensures in
    subst (λ (of : ℕ × List Report). IfOk c.split_by_reporter.result (λ scripts. lists_of scripts.items ≡ scripts_of of.0 of.1))
    (ap₂ (λ (reporters : ℕ) (script : List Report). (reporters, script)) count c.deref.ensures.value) c.split_by_reporter.ensures

pub returns-clause-split : goal.returns-clause-split
returns-clause-split c = split c

pub returns-clause-few : goal.returns-clause-few
returns-clause-few c =
    if_ok c.split_by_reporter.result (λ scripts. lists_of scripts.items ≡ scripts_of (reporter_count c.args.document.now) c.args.document.now.script.items) (λ scripts. length scripts.items ≤ MAX_REPORTERS)
    (λ scripts is. few-scripts c.args.document.now c.requires scripts.items is) (split c)

pub returns-clause-scripts : goal.returns-clause-scripts
returns-clause-scripts c =
    if_ok c.split_by_reporter.result (λ scripts. lists_of scripts.items ≡ scripts_of (reporter_count c.args.document.now) c.args.document.now.script.items) (λ scripts. AreOfReporters (tasks_in c.args.document.now) (link_count c.args.document.now) scripts.items)
    (λ scripts is. are-scripts c.args.document.now c.requires scripts.items is) (split c)

pub returns-clause-room : goal.returns-clause-room
returns-clause-room c =
    if_ok c.split_by_reporter.result (λ scripts. lists_of scripts.items ≡ scripts_of (reporter_count c.args.document.now) c.args.document.now.script.items) (λ scripts. reports_in scripts.items ≤ MAX_REPORTS)
    (λ scripts is. room-scripts c.args.document.now c.requires scripts.items is) (split c)
