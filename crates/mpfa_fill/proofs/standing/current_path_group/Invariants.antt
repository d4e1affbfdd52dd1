use Rattle.std.proofs.Common.{◌≡◌, ℕ, ◌<◌, false, slice_index_or, []}
use Rattle.bwe_specs.specs.Paths.{is_open}
use Rattle.bwe_specs.specs.Filling.{closed_links}
use Rattle.mpfa_fill.proofs.standing.current_path_group.Given as goal

abbrev pub invariant-loop-place : goal.invariant-loop-place
invariant-loop-place l = (k : ℕ) → k < l.place → is_open (closed_links l.closings) (slice_index_or (slice_index_or l.plan l.group []) k []) ≡ false
