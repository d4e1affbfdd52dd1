-- What a plan is made of, as contracts see it.
use Rattle.std.specs.Prelude.{ℕ, ◌<◌, List, map, All, Vec, if◌then◌else◌}
use Rattle.std.specs.String.{string_bytes}
use Rattle.std.proofs.Common.{Global}
use Rattle.bwe_specs.specs.Paths.{Path, PathGroup, PathGroups, goes_over}
use Rattle.bwe_specs.specs.declared.given.PathSpec.{PathSpec}
use Rattle.bwe_specs.specs.declared.given.GroupSpec.{GroupSpec}

-- a group as it is given: the sites where its traffic starts and ends, and its path groups
pub record Group : Type 0 where
  pub from : List ℕ
  pub to : List ℕ
  pub path_groups : PathGroups

-- the path groups of all groups
abbrev pub path_groups_of : List Group → List PathGroups
path_groups_of groups = map (λ group. group.path_groups) groups

-- each link number of the groups is below this one
abbrev pub AreInRange : ℕ → List Group → Type 0
AreInRange links groups =
    All (λ group. All (All (λ path. All (λ link. link < links) path.links)) group.path_groups)
    groups

-- the path that is given
abbrev pub path_of : PathSpec → Path
path_of spec = record { weight = spec.weight; links = spec.links.items }

-- the weight of the path that is given, if it goes over the link
abbrev pub weight_on : ℕ → PathSpec → ℕ
weight_on link spec = if goes_over link (path_of spec) then spec.weight else 0

-- the path group that is given
abbrev pub path_group_of : Vec PathSpec Global → PathGroup
path_group_of specs = map path_of specs.items

-- the group that is given
abbrev pub group_of : GroupSpec → Group
group_of spec =
    record {
      from = string_bytes spec.from;
      to = string_bytes spec.to;
      path_groups = map path_group_of spec.places.items;
    }

-- the groups that are given, in their order
abbrev pub groups_of : List GroupSpec → List Group
groups_of specs = map group_of specs
