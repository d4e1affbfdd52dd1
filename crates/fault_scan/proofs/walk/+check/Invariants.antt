use Rattle.std.proofs.Common.{◌≡◌, ◌+◌, ◌*◌, List, length}
use Rattle.serde_json.specs.Data.{Data}
use Rattle.raw_reader.specs.Walks.{Amid, Within}
use Rattle.fault_scan.specs.Tables.{fields_at}
use Rattle.fault_scan.specs.Seen.{Holds, ItemsAre, fields_in}
use Rattle.fault_scan.proofs.walk.+check.Given as goal

abbrev pub decreases-check : goal.decreases-check
decreases-check l = 2 * l.depth

abbrev pub decreases-check_items : goal.decreases-check_items
decreases-check_items l = 2 * l.depth + 1

abbrev pub decreases-check_members : goal.decreases-check_members
decreases-check_members l = 2 * l.depth + 1

abbrev pub invariant-check_items-items : goal.invariant-check_items-items
invariant-check_items-items l = (ds : List Data) × Amid l.depth (λ (d x : Data). d ≡ x) l.initial.reader ds l.reader × ItemsAre l.version l.kind_of_item l.items ds

abbrev pub decreases-check_items-items : goal.decreases-check_items-items
decreases-check_items-items l = length l.reader

abbrev pub invariant-check_members-members : goal.invariant-check_members-members
invariant-check_members-members l = Within l.depth (Holds l.version l.seen) l.initial.reader l.reader × (fields_in l.seen.slots.items ≡ fields_at l.version l.fn.kind)

abbrev pub decreases-check_members-members : goal.decreases-check_members-members
decreases-check_members-members l = length l.reader
