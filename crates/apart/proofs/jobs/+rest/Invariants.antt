use Rattle.std.proofs.Common.{◌+◌, ◌-◌, ◌*◌, length}
use Rattle.apart.proofs.jobs.+rest.Given as goal

abbrev pub decreases-each_beside : goal.decreases-each_beside
decreases-each_beside g l = 4 * length l.jobs.items

abbrev pub decreases-beside_rest : goal.decreases-beside_rest
decreases-beside_rest g l = 4 * (length l.first.items + length l.rest.items) - 1

abbrev pub decreases-beside_rest-late : goal.decreases-beside_rest-late
decreases-beside_rest-late g l = 4 * length l.rest.items + 1
