use Rattle.std.proofs.Common.{◌+◌, ◌-◌, ◌*◌, length}
use Rattle.at_once.proofs.+halves.Given as goal

abbrev pub decreases-map_each_mut : goal.decreases-map_each_mut
decreases-map_each_mut g l = 4 * length l.items.now

abbrev pub decreases-map_halves : goal.decreases-map_halves
decreases-map_halves g l = 4 * (length l.front.now + length l.back.now) - 1

abbrev pub decreases-map_halves-early : goal.decreases-map_halves-early
decreases-map_halves-early g l = 4 * length l.front.now + 1

abbrev pub decreases-map_halves-late : goal.decreases-map_halves-late
decreases-map_halves-late g l = 4 * length l.back.now + 1
