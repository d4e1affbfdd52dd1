use Rattle.std.proofs.Common.{◌≡◌, map, slice_index}
use Rattle.bwe_specs.specs.Reports.{numbers}
use Rattle.tiers.specs.Fillings.{line_in_tier}
use Rattle.tiers.proofs.fill.tiered_lines.Given as goal

abbrev pub invariant-loop-group : goal.invariant-loop-group
invariant-loop-group l = l.lines.items ≡ map (λ group. line_in_tier l.plan l.fillings (slice_index l.tiers group) group) (numbers l.group)
