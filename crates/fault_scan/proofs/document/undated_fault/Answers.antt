use Rattle.std.proofs.Common.{sym, ◌∙◌, subst}
use Rattle.fault_scan.specs.declared.kinds.Kind.TheVariants as kinds
use Rattle.fault_scan.specs.declared.kinds.Form.TheVariants as forms
use Rattle.fault_scan.specs.Kinds.{at, form_at}
use Rattle.fault_scan.specs.Seen.{Tells}
use Rattle.fault_scan.proofs.Documents.{undated_fails}
use Rattle.fault_scan.proofs.document.undated_fault.Goals as goal

pub returns-then-is_before_version : goal.returns-then-is_before_version
unfolding at form_at
returns-then-is_before_version c =
    let read = c.in_ok-fault.ensures.value in
    let fails = subst (λ r. Tells r (at 0 (kinds.Object forms.Undated) read.0)) c.in-Err.is read.2 in
    (read.0, read.1, undated_fails read.0 c.in-Err.fault fails (sym c.is_before_version.ensures ∙ c.if-is_before_version.true))
