use Rattle.std.proofs.Common.{◌≡◌, ℕ, ◌<◌, ◌∷◌, reverse, false, slice_index_or, []}
use Rattle.bwe_specs.specs.Paths.{is_open}
use Rattle.bwe_specs.specs.Filling.{closed_links}
use Rattle.growth_queries.proofs.groups.next_place.Given as goal

abbrev pub invariant-loop-place : goal.invariant-loop-place
invariant-loop-place g l = (k : ℕ) → k < l.place → is_open (l.link ∷ closed_links (reverse l.growth.closings)) (slice_index_or (slice_index_or l.growth.plan.now l.group []) k []) ≡ false
