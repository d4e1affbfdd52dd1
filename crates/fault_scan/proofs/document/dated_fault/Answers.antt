use Rattle.std.proofs.Common.{sym, ◌∙◌, subst}
use Rattle.fault_scan.specs.declared.kinds.Kind.TheVariants as kinds
use Rattle.fault_scan.specs.declared.kinds.Form.TheVariants as forms
use Rattle.fault_scan.specs.Kinds.{at, form_at}
use Rattle.fault_scan.specs.Seen.{Tells}
use Rattle.fault_scan.proofs.Documents.{dated_fails}
use Rattle.fault_scan.proofs.document.dated_fault.Goals as goal

pub returns : goal.returns
unfolding at form_at
returns c =
    let read = c.in_ok-fault.ensures.value in
    let fails = subst (λ r. Tells r (at c.args.version (kinds.Object forms.Dated) read.0)) c.in-Err.is read.2 in
    (read.0, read.1, dated_fails c.args.version read.0 c.in-Err.fault fails (sym c.is_at_version.ensures ∙ c.if-is_at_version.false))
