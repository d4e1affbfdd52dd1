use Rattle.std.proofs.Common.{◌≡◌, length}
use Rattle.serde_json.specs.Data.{Members, object}
use Rattle.version_scan.specs.Version.{is_4_at}
use Rattle.version_scan.proofs.Loops.{Within}
use Rattle.version_scan.proofs.version.members_are_of_version_4.Given as goal

abbrev pub invariant-members : goal.invariant-members
invariant-members l = (found : Members) × Within l.depth l.initial.reader l.reader found × (l.is_4 ≡ is_4_at (object found))

abbrev pub decreases-members : goal.decreases-members
decreases-members l = length l.reader
