-- The values of groups that rise by a slope.
use Rattle.std.specs.Prelude.{ℕ, ◌+◌, ◌-◌, ◌*◌, List, length, min, slice_index_or}
use Rattle.mpfa_fill.specs.GroupValues.{Values}
use Rattle.network_cases.specs.declared.slopes.Slope.{Slope}

-- up to the demand by the slope, and from a later share on by one a share
abbrev pub value_by : Slope → ℕ → ℕ
value_by slope share =
    min 10_000_000_000 (min (slope.rise * share) slope.demand + (share - slope.again))

abbrev pub values_by : List Slope → ℕ → Values
values_by slopes top = record {
  groups = length slopes;
  top = top;
  value = λ group share. value_by
      (slice_index_or slopes group (record { rise = 0; demand = 0; again = 0 })) share;
}
