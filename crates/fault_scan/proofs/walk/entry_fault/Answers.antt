use Rattle.std.proofs.Common.{◌≡◌, true, false, sym, ap, ◌∙◌, subst}
use Rattle.std.specs.List.{remove}
use Rattle.serde_json.specs.Data.{object}
use Rattle.fault_scan.specs.Kinds.{at}
use Rattle.fault_scan.specs.Tables.{by_fields}
use Rattle.fault_scan.specs.Seen.{Tells, are_apart, fields_in}
use Rattle.fault_scan.proofs.Forms.{entry_by, capacity_fields, demand_fields}
use Rattle.fault_scan.proofs.Entries.{entry_apart, less_apart}
use Rattle.fault_scan.proofs.walk.entry_fault.Goals as goal

pub without-requires-then-is_of_link-clause-apart : goal.without-requires-then-is_of_link-clause-apart
without-requires-then-is_of_link-clause-apart c = ap are_apart (c.without.ensures.fields ∙ ap (λ fs. remove fs 2) c.requires) ∙ less_apart.0

pub without-requires-clause-apart : goal.without-requires-clause-apart
without-requires-clause-apart c = ap are_apart c.requires ∙ entry_apart

pub without-requires-else-is_of_link-clause-apart : goal.without-requires-else-is_of_link-clause-apart
without-requires-else-is_of_link-clause-apart c = ap are_apart c.requires ∙ entry_apart

pub without-requires-else-is_of_link-2-clause-apart : goal.without-requires-else-is_of_link-2-clause-apart
without-requires-else-is_of_link-2-clause-apart c = ap are_apart (c.without-else-is_of_link.ensures.fields ∙ ap (λ fs. remove fs 4) c.requires) ∙ less_apart.1

pub returns-then-is_of_link : goal.returns-then-is_of_link
unfolding at
returns-then-is_of_link c = λ found holds.
    let version = c.args.version in
    let table : fields_in c.without-then-is_of_link.result.slots.items ≡ capacity_fields = c.without-then-is_of_link.ensures.fields ∙ ap (λ fs. remove fs 1) (c.without.ensures.fields ∙ ap (λ fs. remove fs 2) c.requires) in
    let whole = ap (λ fs. by_fields version fs (object found)) table ∙ sym (entry_by version true (object found) (sym (c.is_of_link.ensures found holds) ∙ c.if-is_of_link.true)) in
    subst (λ r. Tells c.fault.result r) whole (c.fault.ensures version found (c.without-then-is_of_link.ensures.holds version found (c.without.ensures.holds version found holds)))

pub returns-else-is_of_link : goal.returns-else-is_of_link
unfolding at
returns-else-is_of_link c = λ found holds.
    let version = c.args.version in
    let table : fields_in c.without-else-is_of_link-2.result.slots.items ≡ demand_fields = c.without-else-is_of_link-2.ensures.fields ∙ ap (λ fs. remove fs 3) (c.without-else-is_of_link.ensures.fields ∙ ap (λ fs. remove fs 4) c.requires) in
    let whole = ap (λ fs. by_fields version fs (object found)) table ∙ sym (entry_by version false (object found) (sym (c.is_of_link.ensures found holds) ∙ c.if-is_of_link.false)) in
    subst (λ r. Tells c.fault-else-is_of_link.result r) whole (c.fault-else-is_of_link.ensures version found (c.without-else-is_of_link-2.ensures.holds version found (c.without-else-is_of_link.ensures.holds version found holds)))
