use Rattle.std.proofs.Common.{◌≡◌, map}
use Rattle.bwe_specs.specs.Paths.{path_group_count}
use Rattle.bwe_specs.specs.Reports.{numbers}
use Rattle.bwe_specs.specs.Lists.{lists_of}
use Rattle.link_sums.specs.Sums.{amount_at}
use Rattle.mpfa_fill.proofs.growth.amounts_of.Given as goal

abbrev pub invariant-loop-group : goal.invariant-loop-group
invariant-loop-group l = lists_of l.rows.items ≡ map (λ group. map (amount_at l.sums.amounts group) (numbers (path_group_count l.plan group))) (numbers l.group)
