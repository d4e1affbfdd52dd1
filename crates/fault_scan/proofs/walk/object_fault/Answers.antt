use Rattle.std.proofs.Common.{sym, ap, ◌∙◌, subst}
use Rattle.serde_json.specs.Data.{object}
use Rattle.fault_scan.specs.Kinds.{at}
use Rattle.fault_scan.specs.Tables.{by_fields, fields_at}
use Rattle.fault_scan.specs.Seen.{Tells}
use Rattle.fault_scan.proofs.Forms.{form_by}
use Rattle.fault_scan.proofs.Told.{here_tells, other_object}
use Rattle.fault_scan.proofs.walk.object_fault.Goals as goal

pub entry_fault-requires : goal.entry_fault-requires
unfolding fields_at
entry_fault-requires c = c.requires ∙ ap (fields_at c.args.version) c.in-Entry.is

pub returns-in-Any : goal.returns-in-Any
unfolding at
returns-in-Any c = λ found holds. ap (λ k. at c.args.version k (object found)) c.in-Any.is

pub returns-in-Object : goal.returns-in-Object
unfolding at fields_at
returns-in-Object c = λ found holds.
    let version = c.args.version in
    let table = c.requires ∙ ap (fields_at version) c.in-Object.is in
    let whole = ap (λ fs. by_fields version fs (object found)) table ∙ sym (form_by version c.in-Object.field-0 (object found)) ∙ ap (λ k. at version k (object found)) (sym c.in-Object.is) in
    subst (λ r. Tells c.fault.result r) whole (c.fault.ensures version found holds)

pub returns-in-Text : goal.returns-in-Text
returns-in-Text c = λ found holds. here_tells c.here.result _ c.here.ensures (other_object c.args.version c.args.kind found c.in-Text.is)
