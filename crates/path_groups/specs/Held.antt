-- How a plan holds its path groups.
use Rattle.std.specs.Prelude.{List, map, All, Vec}
use Rattle.std.proofs.Common.{Global}
use Rattle.bwe_specs.specs.Paths as paths
use Rattle.path_groups.specs.declared.plan.PathGroup.{PathGroup}
use Rattle.bwe_specs.specs.Given.{path_group_of}
use Rattle.path_groups.specs.Parts.{AreParts}

-- the path group that is held
abbrev pub path_group_held : PathGroup → paths.PathGroup
path_group_held held = path_group_of held.paths

-- the path groups of one group
abbrev pub path_groups_held : Vec PathGroup Global → paths.PathGroups
path_groups_held held = map path_group_held held.items

-- the path groups of all groups
abbrev pub plan_held : List (Vec PathGroup Global) → List paths.PathGroups
plan_held held = map path_groups_held held

-- each path group is held with the parts of its links
abbrev pub HoldsParts : PathGroup → Type 0
HoldsParts held = AreParts (path_group_held held) held.parts.items

abbrev pub AllHoldParts : List (Vec PathGroup Global) → Type 0
AllHoldParts held = All (λ path_groups. All HoldsParts path_groups.items) held
