use Rattle.std.proofs.Common.{◌≡◌, map}
use Rattle.bwe_specs.specs.Reports.{numbers}
use Rattle.policy_tree.specs.Trees.{value_in}
use Rattle.parallel_values.proofs.values_in_turn.Given as goal

abbrev pub invariant-loop-group : goal.invariant-loop-group
invariant-loop-group l = l.values.items ≡ map (λ group. value_in l.tree group l.share) (numbers l.group)
