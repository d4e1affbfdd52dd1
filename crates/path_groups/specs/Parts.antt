-- How the amount on a path group is split over the links.
use Rattle.std.specs.Prelude.{◌≡◌, ℕ, ◌*◌, ◌<◌, ◌≤◌, List, map, All, Bool, true, ◌==◌, nat_eq}
use Rattle.std.specs.List.{list_any, IsDistinct}
use Rattle.bwe_specs.specs.declared.limits.TheConstants.{MAX_PATHS, MAX_WEIGHT}
use Rattle.bwe_specs.specs.Paths.{PathGroup, PathGroups, path_group_at, path_group_count, uses, weight_of, weight_over}
use Rattle.path_groups.specs.declared.part.LinkPart.{LinkPart}
use Rattle.path_groups.specs.declared.part.LinkUse.{LinkUse}

-- the part has a weight, no greater than the whole
pub record IsPart (part : LinkPart) : Type 0 where
  pub weighs : 1 ≤ part.whole
  pub is_light : part.whole ≤ MAX_PATHS * MAX_WEIGHT
  pub within : part.weight ≤ part.whole

-- a link's part of the path group: the weights of the paths over it, of the weights of all
pub record IsPartOf (path_group : PathGroup) (part : LinkPart) : Type 0 where
  pub used : uses path_group part.link ≡ true
  pub weight : part.weight ≡ weight_over path_group part.link
  pub whole : part.whole ≡ weight_of path_group

-- it is the part of this link
pub record IsPartOn (path_group : PathGroup) (link : ℕ) (part : LinkPart) : Type 0 where
  pub on : part.link ≡ link
  pub sound : IsPart part
  pub of : IsPartOf path_group part

-- it is a path group of the group that uses the link, with its part, and the only one where that is
-- said
pub record IsUseOf (groups : List PathGroups) (link group : ℕ) (link_use : LinkUse) : Type 0 where
  pub place_is : link_use.place < path_group_count groups group
  pub part : IsPartOn (path_group_at groups group link_use.place) link link_use.part
  pub only : link_use.is_only ≡ true → (place : ℕ)
      → uses (path_group_at groups group place) link ≡ true → place ≡ link_use.place

-- one of the parts is the link's
abbrev pub has_part : List LinkPart → ℕ → Bool
has_part parts link = list_any (λ part. part.link == link) parts

-- the parts are those of links, each of which has one
pub record AreSomeParts (path_group : PathGroup) (parts : List LinkPart) : Type 0 where
  pub each : All (IsPartOf path_group) parts
  pub once : IsDistinct nat_eq (map (λ part. part.link) parts)

-- and each link that the path group uses has one
pub record AreParts (path_group : PathGroup) (parts : List LinkPart) : Type 0 where
  pub some : AreSomeParts path_group parts
  pub every_link : (link : ℕ) → uses path_group link ≡ true → has_part parts link ≡ true

-- the link has a part too, and each that had one still has one
pub record HasPartToo (path_group : PathGroup) (old new : List LinkPart) (link : ℕ) : Type 0 where
  pub some : AreSomeParts path_group old → AreSomeParts path_group new
  pub keeps : (other : ℕ) → has_part old other ≡ true → has_part new other ≡ true
  pub has : has_part new link ≡ true
