use Rattle.std.proofs.Common.{◌≡◌, length}
use Rattle.link_front.proofs.by_link.counts_of.Given as goal

abbrev pub invariant-loop-group : goal.invariant-loop-group
invariant-loop-group l = length l.counts.items ≡ l.links

abbrev pub invariant-loop-place : goal.invariant-loop-place
invariant-loop-place l = length l.counts.items ≡ l.links
