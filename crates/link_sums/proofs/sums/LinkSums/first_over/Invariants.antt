use Rattle.std.proofs.Common.{ℕ, ◌<◌, ◌≤◌, slice_index}
use Rattle.link_sums.proofs.sums.LinkSums.first_over.Given as goal

-- every link before fits
abbrev pub invariant-loop-link : goal.invariant-loop-link
invariant-loop-link l = (link : ℕ) → link < l.link → slice_index l.self-inside.loads.items link ≤ slice_index l.topology.capacities link
