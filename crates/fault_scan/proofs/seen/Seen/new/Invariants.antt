use Rattle.std.proofs.Common.{◌≡◌, ℕ, take}
use Rattle.serde_json.specs.Data.{no_members}
use Rattle.fault_scan.specs.Seen.{SlotsAre, fields_in}
use Rattle.fault_scan.proofs.seen.Seen.new.Given as goal

abbrev pub invariant-fields : goal.invariant-fields
invariant-fields l = (fields_in l.slots.items ≡ take l.field-index l.fn.fields) × ((version : ℕ) → SlotsAre version no_members l.slots.items)
