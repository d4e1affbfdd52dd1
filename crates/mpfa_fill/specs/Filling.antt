-- What a filling that the code makes has to be.
use Rattle.std.specs.Prelude.{◌≡◌, length, map, reverse}
use Rattle.bwe_specs.specs.Reports.{numbers}
use Rattle.bwe_specs.specs.Paths.{path_group_count, link_load}
use Rattle.bwe_specs.specs.Filling.{Wan, filling, group_stop}
use Rattle.bwe_specs.specs.Lists.{lists_of}
use Rattle.mpfa_fill.specs.declared.filling.Filling.{Filling}

-- the closings in their order, the amounts by group and place, the stop shares and the load of each
-- link are those of the filling
pub record IsFilling (wan : Wan) (filled : Filling) : Type 0 where
  pub closings : filled.closings.items ≡ reverse (filling wan).closings
  pub amounts : lists_of filled.amounts.items
      ≡ map (λ group. map ((filling wan).amounts group)
      (numbers (path_group_count wan.groups group))) (numbers (length wan.groups))
  pub shares : filled.shares.items
      ≡ map (group_stop wan (filling wan)) (numbers (length wan.groups))
  pub loads : filled.loads.items
      ≡ map (link_load wan.groups (filling wan).amounts) (numbers (length wan.capacities))
