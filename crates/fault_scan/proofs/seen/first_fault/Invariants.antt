use Rattle.std.proofs.Common.{◌≡◌, ℕ, false, List, ◌++◌, length}
use Rattle.std.specs.List.{list_any}
use Rattle.serde_json.specs.Data.{Members, object}
use Rattle.fault_scan.specs.declared.seen.Slot.{Slot}
use Rattle.fault_scan.specs.Tables.{in_order}
use Rattle.fault_scan.specs.Seen.{SlotsAre, Tells, fields_in, is_missing}
use Rattle.fault_scan.proofs.seen.first_fault.Given as goal

abbrev pub invariant-slots : goal.invariant-slots
invariant-slots l = (behind : List Slot) × (l.initial.slots.items ≡ l.slots.items ++ behind)
    × ((version : ℕ) (found : Members) → SlotsAre version found behind → list_any is_missing behind ≡ false → Tells l.first (in_order version (fields_in behind) (object found)))

abbrev pub decreases-slots : goal.decreases-slots
decreases-slots l = length l.slots.items
