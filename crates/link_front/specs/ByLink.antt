-- The groups that use each link.
use Rattle.std.specs.Prelude.{◌≡◌, ℕ, ◌<◌, ◌≤◌, true, List, [], Contains, length, map, slice_index, slice_index_or}
use Rattle.bwe_specs.specs.Paths.{PathGroups, path_group_at, uses}
use Rattle.path_groups.specs.declared.part.LinkUse.{LinkUse}
use Rattle.path_groups.specs.Parts.{IsPartOn, IsUseOf}
use Rattle.link_front.specs.declared.by_link.LinkGroups.{LinkGroups}

-- what is listed of a link: groups, and of each a use of the link
pub record Listed : Type 0 where
  pub groups : List ℕ
  pub uses : List LinkUse

-- at first
abbrev pub nothing : Listed
nothing = record { groups = []; uses = [] }

-- what a list has
abbrev pub listed_of : LinkGroups → Listed
listed_of list = record { groups = list.groups.items; uses = list.uses.items }

-- what is listed of the link
abbrev pub listed_on : List LinkGroups → ℕ → Listed
listed_on lists link = slice_index_or (map listed_of lists) link nothing

-- groups in ascending order, all below a number
pub record AreAscending (list : List ℕ) (end : ℕ) : Type 0 where
  pub below : (i : ℕ) → i < length list → slice_index list i < end
  pub rise : (i j : ℕ) → i < j → j < length list → slice_index list i < slice_index list j

-- they are in ascending order, and each group is one of them that uses the link on a path group
pub record AreGroupsOn (groups : List PathGroups) (link : ℕ) (list : List ℕ) : Type 0 where
  pub ascending : AreAscending list (length groups)
  pub each : (group place : ℕ) → uses (path_group_at groups group place) link ≡ true
      → Contains list group

-- of each group of the list, in the same order, they have a path group that uses the link
pub record AreUsesOn (groups : List PathGroups) (link : ℕ) (list : List ℕ) (link_uses : List LinkUse)
    : Type 0 where
  pub each_group : length link_uses ≡ length list
  pub each : (i : ℕ) (d : LinkUse) → i < length list
      → IsUseOf groups link (slice_index list i) (slice_index_or link_uses i d)

-- the groups of the link are listed, with their uses of it
pub record IsListed (groups : List PathGroups) (link : ℕ) (listed : Listed) : Type 0 where
  pub groups_on : AreGroupsOn groups link listed.groups
  pub uses_on : AreUsesOn groups link listed.groups listed.uses

-- each link has the list of its groups
abbrev pub AreListed : List PathGroups → List LinkGroups → Type 0
AreListed groups lists = (link : ℕ) → IsListed groups link (listed_on lists link)

-- the path group comes before this one, by group and place
pub record IsBefore (group place other at : ℕ) : Type 0 where
  pub low : other ≤ group
  pub here : other ≡ group → at < place

-- the use is that of a path group before this one, and the only one before it where that is said
pub record IsUseTo (groups : List PathGroups) (link group place other : ℕ) (link_use : LinkUse)
    : Type 0 where
  pub before : IsBefore group place other link_use.place
  pub part : IsPartOn (path_group_at groups other link_use.place) link link_use.part
  pub only : link_use.is_only ≡ true → (at : ℕ) → IsBefore group place other at
      → uses (path_group_at groups other at) link ≡ true → at ≡ link_use.place

-- the groups are listed that use the link on path groups before this one
pub record IsListedTo (groups : List PathGroups) (link group place : ℕ) (listed : Listed) : Type 0
  where
    pub each_group : length listed.uses ≡ length listed.groups
    pub rise : (i j : ℕ) → i < j → j < length listed.groups
        → slice_index listed.groups i < slice_index listed.groups j
    pub each : (other at : ℕ) → IsBefore group place other at
        → uses (path_group_at groups other at) link ≡ true → Contains listed.groups other
    pub each_use : (i : ℕ) (d : LinkUse) → i < length listed.groups
        → IsUseTo groups link group place (slice_index listed.groups i)
        (slice_index_or listed.uses i d)

-- each link has the list of them
abbrev pub AreListedTo : List PathGroups → ℕ → ℕ → List LinkGroups → Type 0
AreListedTo groups group place lists =
    (link : ℕ) → IsListedTo groups link group place (listed_on lists link)
