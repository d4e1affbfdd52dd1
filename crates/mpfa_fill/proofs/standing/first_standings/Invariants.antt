use Rattle.std.proofs.Common.{◌≡◌, slice_index_or, [], map}
use Rattle.bwe_specs.specs.Paths.{current_path_group}
use Rattle.bwe_specs.specs.Reports.{numbers}
use Rattle.mpfa_fill.specs.Standing.{standing_of}
use Rattle.mpfa_fill.proofs.standing.first_standings.Given as goal

abbrev pub invariant-loop-group : goal.invariant-loop-group
invariant-loop-group l = l.standings.items ≡ map (λ group. standing_of (current_path_group (slice_index_or l.plan group []) []) 0 0) (numbers l.group)
