use Rattle.std.proofs.Common.{◌≡◌, map}
use Rattle.bwe_specs.specs.Reports.{numbers}
use Rattle.link_sums.specs.Sums.{amount_at}
use Rattle.mpfa_fill.proofs.growth.row_of.Given as goal

abbrev pub invariant-loop-place : goal.invariant-loop-place
invariant-loop-place l = l.row.items ≡ map (amount_at l.sums.amounts l.group) (numbers l.place)
