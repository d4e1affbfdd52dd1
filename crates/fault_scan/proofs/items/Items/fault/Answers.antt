use Rattle.std.proofs.Common.{sym, ap, subst}
use Rattle.serde_json.specs.Data.{array}
use Rattle.raw_document.specs.Shape.{list_items}
use Rattle.fault_scan.specs.Kinds.{at}
use Rattle.fault_scan.specs.Tables.{item_at}
use Rattle.fault_scan.specs.Seen.{Tells, ItemsAre}
use Rattle.fault_scan.proofs.Told.{here_tells, list_tells, other_array}
use Rattle.fault_scan.proofs.items.Items.fault.Goals as goal

pub returns-in-Any : goal.returns-in-Any
unfolding at
returns-in-Any c = λ version items are. ap (λ k. at version k (array items)) c.in-Any.is

pub returns-in-List : goal.returns-in-List
returns-in-List c = λ version items are. list_tells version c.args.kind c.in-List.field-0 c.args.self items c.in-List.is are

pub returns-in-Point : goal.returns-in-Point
unfolding at item_at
returns-in-Point c = λ version items are.
    subst (λ k. ItemsAre version (item_at k) c.args.self (list_items items) → Tells c.point_fault.result (at version k (array items))) (sym c.in-Point.is) (λ these. c.point_fault.ensures items these.0 these.1) are

pub returns-in-Text : goal.returns-in-Text
returns-in-Text c = λ version items are. here_tells c.here.result _ c.here.ensures (other_array version c.args.kind items c.in-Text.is)
