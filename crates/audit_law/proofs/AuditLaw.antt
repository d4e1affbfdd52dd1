-- The law of the audit, both ways, and of its first fault.
use Rattle.std.proofs.Common.{◌≡◌, ℕ, ◌++◌, ◌∙◌, List, take, ap, arith}
use Rattle.std.proofs.lemmas.List.{length-take-le, take-append-le, take_all}
use Rattle.bwe_specs.specs.declared.report.Report.{Report}
use Rattle.limit_table.specs.Tables.{total_of}
use Rattle.bwe_specs.specs.Lists.{lists_of}
use Rattle.run_audit.specs.Verdict.{verdict_of}
use Rattle.text_scan.specs.Lines.{left_of, lines_of}
use Rattle.run_audit.specs.declared.verdict.AuditVerdict.TheVariants.{Legal, Wrong}
use Rattle.table_text.specs.TableText.{text_of}
use Rattle.audit_law.specs.FirstFault.{NoRunGoesOn, SomeRunBeginsSo}
use Rattle.audit_law.specs.Laws.{LegalRunIsLegal, LegalTextIsARun, verdict_on}
use Rattle.audit_law.proofs.Logs.{closed_of, run_of}
use Rattle.audit_law.proofs.SameFaults.{same_verdict}
use Rattle.audit_law.proofs.Completions.{text_ends}
use Rattle.audit_law.proofs.Ends.{table_begins}
use Rattle.audit_law.proofs.Whole.{legal_run, run_legal, run_of_lines, script-le}

pub run-legal : LegalRunIsLegal
run-legal names table_of table tasks links scripts text audited run =
    run_legal names tasks links (lists_of scripts) (λ reports. total_of (table_of reports)) table audited.names_so audited.scripts_so audited.totals text
    (run_of names table_of table tasks links scripts audited text run)

pub legal-run : LegalTextIsARun
legal-run names table_of table tasks links scripts text audited legal =
    closed_of names table_of table tasks links scripts audited text
    (legal_run names tasks links (lists_of scripts) (λ reports. total_of (table_of reports)) table audited.names_so audited.scripts_so audited.totals text legal)

pub no-run-goes-on : NoRunGoesOn
no-run-goes-on names table_of table tasks links scripts text line cause audited wrong within other run same =
    let legal : verdict_on names table_of table scripts other ≡ Legal = run-legal names table_of table tasks links scripts other audited run in
    let faulty : verdict_on names table_of table scripts other ≡ Wrong line cause =
    same_verdict names (lists_of scripts) (λ reports. total_of (table_of reports)) (text_of names table) text other line cause within same wrong in
    absurd cc

pub some-run-begins-so : SomeRunBeginsSo
unfolding verdict_of
some-run-begins-so names table_of table tasks links scripts text line cause audited wrong kind =
    let given = audited.scripts_so in
    let lists : List (List Report) = lists_of scripts in
    let total : List Report → ℕ = λ reports. total_of (table_of reports) in
    let ended = text_ends names lists audited.names_so tasks links given (λ number within. omega (arith, script-le lists number within, given.few)) total audited.totals
    (lines_of (text_of names table)) (table_begins names table) (left_of text) (lines_of text) line cause kind wrong in
    let made = run_of_lines names tasks links lists total table audited.names_so given audited.totals (take line (lines_of text) ++ ended.0) ended.2 in (
      made.0,
      closed_of names table_of table tasks links scripts audited made.0 made.1,
      ap (take line) made.2 ∙ take-append-le line (take line (lines_of text)) ended.0 (omega (arith, length-take-le line (lines_of text) ended.1)) ∙ take_all line (take line (lines_of text)) (omega (arith, length-take-le line (lines_of text) ended.1)),
    )
