use Rattle.std.proofs.Common.{◌≡◌, Option, Some, None, Result, Err, sym, subst}
use Rattle.std.specs.Prelude.{⊤}
use Rattle.serde_json.specs.Data.{object}
use Rattle.raw_document.specs.declared.doc_path.Fault.{Fault}
use Rattle.fault_scan.specs.Tables.{followed_by, member_at}
use Rattle.fault_scan.specs.Seen.{Tells}
use Rattle.fault_scan.proofs.Slots.{slot_before, passed_before}
use Rattle.fault_scan.proofs.seen.fault_before.Goals as goal

pub returns-in-Some : goal.returns-in-Some
returns-in-Some c = λ version found rest is there tells.
    subst (λ r. Tells r (followed_by (member_at version c.args.slot.field (object found)) rest)) (sym c.earlier.ensures)
    (slot_before version found c.args.slot rest c.in-Some.found c.under.result c.args.behind is there c.in-Some.is c.under.ensures tells)

no_fault : (o : Option (Result ⊤ Fault)) (fault : Fault) → o ≡ None → o ≡ Some (Err fault) → ⊥
no_fault None fault none some = absurd cc
no_fault (Some r) fault none some = absurd cc

pub returns-in-None : goal.returns-in-None
returns-in-None c = λ version found rest is there tells. passed_before version found c.args.slot rest c.args.behind is there (λ fault bad. no_fault c.args.slot.found fault c.in-None.is bad) tells
