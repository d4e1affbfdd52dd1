use Rattle.std.proofs.Common.{◌≡◌, drop}
use Rattle.path_groups.specs.Faults.{repeats}
use Rattle.path_groups.proofs.check.repeats.Given as goal

abbrev pub invariant-loop-hop : goal.invariant-loop-hop
invariant-loop-hop l = repeats l.links ≡ repeats (drop l.hop l.links)
