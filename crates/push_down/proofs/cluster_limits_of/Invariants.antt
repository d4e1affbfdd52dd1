use Rattle.std.proofs.Common.{◌≡◌, take, flat_map, zip}
use Rattle.push_down.specs.Limits.{limits_of_user}
use Rattle.push_down.proofs.cluster_limits_of.Given as goal

abbrev pub invariant-loop-place : goal.invariant-loop-place
invariant-loop-place l = l.limits.items ≡ flat_map (λ given. limits_of_user l.fn.top given.0 given.1) (take l.place (zip l.users l.amounts.items))
