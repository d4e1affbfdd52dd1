use Rattle.std.proofs.Common.{◌==◌, sym, ap, ◌∙◌, subst}
use Rattle.raw_document.specs.Reading.{check, each}
use Rattle.raw_document.specs.Shape.{list_items}
use Rattle.fault_scan.specs.Kinds.{passed, any_whole}
use Rattle.fault_scan.specs.Seen.{Tells}
use Rattle.fault_scan.proofs.Lists.{point_fine, point_bad}
use Rattle.fault_scan.proofs.items.point_fault.Goals as goal

pub returns-in-Ok : goal.returns-in-Ok
returns-in-Ok c = λ items count tells.
    let fine = subst (λ r. Tells r (passed (each any_whole 0 (list_items items)))) c.in-Ok.is tells in
    subst (λ r. Tells c.fine_if.result r) (sym (point_fine items fine ∙ ap (λ n. check (n == 2)) count)) c.fine_if.ensures

pub returns-in-Err : goal.returns-in-Err
returns-in-Err c = λ items count tells.
    let bad = subst (λ r. Tells r (passed (each any_whole 0 (list_items items)))) c.in-Err.is tells in
    c.told_here.ensures _ _ bad (point_bad items)
