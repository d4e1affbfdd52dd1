use Rattle.std.proofs.Common.{◌≡◌, ℕ, ◌+◌, ◌*◌, ◌<◌, ◌≤◌, length, get_or}
use Rattle.bwe_specs.specs.declared.limits.TheConstants.{MAX_PATH_GROUPS}
use Rattle.bwe_specs.specs.Paths.{path_group_count}
use Rattle.link_sums.proofs.amounts.firsts_of.Given as goal

abbrev pub invariant-loop-group : goal.invariant-loop-group
invariant-loop-group l = record {
  size : length l.firsts.items ≡ l.group + 1;
  last : get_or l.firsts.items l.group 0 ≡ l.first;
  start : get_or l.firsts.items 0 0 ≡ 0;
  each : (k : ℕ) → k < l.group → get_or l.firsts.items (k + 1) 0 ≡ get_or l.firsts.items k 0 + path_group_count l.plan k;
  small : l.first ≤ l.group * MAX_PATH_GROUPS;
}
