-- The closings so far and the groups under them, as the code keeps them.
use Rattle.std.specs.Prelude.{◌≡◌, ℕ, ◌+◌, ◌<◌, ◌≤◌, true, false, List, [], ◌∷◌, All, length, reverse, slice_index_or, Option, None, Some, sum_by}
use Rattle.bwe_specs.specs.declared.network.Closing.{Closing}
use Rattle.bwe_specs.specs.Paths.{path_group_at, load_on, link_load, uses}
use Rattle.bwe_specs.specs.Filling.{Wan, current_path_group_of, is_at, stop_share}
use Rattle.bwe_specs.specs.RightClosings.{last_share, amounts_at}
use Rattle.path_groups.specs.Parts.{IsPartOn}
use Rattle.link_sums.specs.Sums.{Sums, amount_at, IsSummedOver}
use Rattle.mpfa_fill.specs.GroupValues.{Values, AreGroupValues, wan_of}
use Rattle.mpfa_fill.specs.declared.standing.Standing.{Standing}
use Rattle.mpfa_fill.specs.declared.standing.Standing.TheVariants.{Grows, Stopped}
use Rattle.mpfa_fill.specs.declared.growth.Growth.{Growth}
use Rattle.mpfa_fill.specs.declared.growth.Term.{Term}
use Rattle.mpfa_fill.specs.declared.growth.ValueAt.{ValueAt}

-- from the last closing on, the group has there what was added of it, and its value above a base
abbrev pub HasThere : Wan → List Closing → (ℕ → ℕ → ℕ) → ℕ → ℕ → ℕ → Type 0
HasThere wan closings added group place base = (share : ℕ) → last_share closings ≤ share
    → share ≤ wan.top
    → amounts_at wan closings share group place + base ≡ added group place + wan.value group share

-- from the last closing on, the group has what was added of it on each path group where it does not
-- grow
abbrev pub HasElsewhere : Wan → List Closing → (ℕ → ℕ → ℕ) → Type 0
HasElsewhere wan closings added = (group place share : ℕ)
    → is_at (current_path_group_of wan closings group) place ≡ false → last_share closings ≤ share
    → share ≤ wan.top
    → amounts_at wan closings share group place ≡ added group place

-- a group grows on its path group, where it has its value above a base, or it stopped at a share
abbrev pub IsHeld : Wan → List Closing → (ℕ → ℕ → ℕ) → ℕ → Standing → Type 0
IsHeld wan closings added group (Grows place base) =
    (current_path_group_of wan closings group ≡ Some place) × (base ≤ wan.value group wan.top)
    × HasThere wan closings added group place base
IsHeld wan closings added group (Stopped at) =
    (current_path_group_of wan closings group ≡ None)
    × ((until : ℕ) → stop_share (slice_index_or wan.groups group []) closings until ≡ at)

-- the shares of the closings never fall, and they are below the top
abbrev pub AreInOrder : Wan → List Closing → Type 0
AreInOrder wan [] = Unit {0}
AreInOrder wan (closing ∷ earlier) = AreInOrder wan earlier
    × (last_share earlier ≤ closing.share) × (closing.share < wan.top)

-- the closings are in order, and each group is held under them; that they are right is for those
-- who fill
pub record IsGrowthOf (values : Values) (wan : Wan) (closings : List Closing)
    (standings : List Standing) (sums : Sums) : Type 0 where
  pub known : AreGroupValues values
  pub count : values.groups ≡ length wan.groups
  pub order : AreInOrder wan closings
  pub summed : IsSummedOver wan.groups sums
  pub links : length sums.loads ≡ length wan.capacities
  pub elsewhere : HasElsewhere wan closings (amount_at sums.amounts)
  pub each_group : length standings ≡ length wan.groups
  pub each : (group : ℕ) → group < length wan.groups
      → IsHeld wan closings (amount_at sums.amounts) group
      (slice_index_or standings group (Stopped 0))

-- what is filled
abbrev pub wan_in : {V : Type 0} → (V → Values) → Growth V → Wan
wan_in meaning growth =
    wan_of (meaning growth.values.now) growth.plan.now growth.topology.now.capacities

-- the closings, with the newest first
abbrev pub closings_in : {V : Type 0} → Growth V → List Closing
closings_in growth = reverse growth.closings

-- what was added of each group on each path group
abbrev pub added_in : {V : Type 0} → Growth V → ℕ → ℕ → ℕ
added_in growth = amount_at growth.sums.amounts

-- the same of the code's growth
abbrev pub IsGrowth : {V : Type 0} → (V → Values) → Growth V → Type 0
IsGrowth meaning growth =
    IsGrowthOf (meaning growth.values.now) (wan_in meaning growth) (closings_in growth)
    growth.standings.items growth.sums

-- what is known of a group's value at one share is so
abbrev pub IsKnown : Wan → ℕ → Option ValueAt → Type 0
IsKnown wan group (Some known) = known.value ≡ wan.value group known.share
IsKnown wan group None = Unit {0}

-- the group grows over the link, so much of it was added there, above this base it has its value,
-- and by this part so much of the link's load is of what was added
pub record IsTermOf (wan : Wan) (closings : List Closing) (added : ℕ → ℕ → ℕ) (link group : ℕ)
    (term : Term) : Type 0 where
  pub group_is : term.group ≡ group
  pub in_range : group < length wan.groups
  pub grows : current_path_group_of wan closings group ≡ Some term.place
  pub amount : term.amount ≡ added group term.place
  pub has : HasThere wan closings added group term.place term.value
  pub part : IsPartOn (path_group_at wan.groups group term.place) link term.part
  pub held : term.held ≡ load_on (path_group_at wan.groups group term.place) link term.amount
  pub known : IsKnown wan group term.known

-- what amounts of the groups of the terms put on the link
abbrev pub terms_load : Wan → ℕ → (ℕ → ℕ → ℕ) → List Term → ℕ
terms_load wan link amounts terms =
    sum_by (λ term. load_on (path_group_at wan.groups term.group term.place) link
    (amounts term.group term.place)) terms

-- the link's load differs from that of what was added as those of the terms do
pub record AreTermsOn (wan : Wan) (closings : List Closing) (added : ℕ → ℕ → ℕ) (link : ℕ)
    (terms : List Term) : Type 0 where
  pub each : All (λ term. IsTermOf wan closings added link term.group term) terms
  pub load : (share : ℕ) → last_share closings ≤ share → share ≤ wan.top
      → link_load wan.groups (amounts_at wan closings share) link + terms_load wan link added terms
      ≡ link_load wan.groups added link + terms_load wan link (amounts_at wan closings share) terms

-- how a group is held, and the base above which it has its value
abbrev pub standing_at : {V : Type 0} → Growth V → ℕ → Standing
standing_at growth group = slice_index_or growth.standings.items group (Stopped 0)

-- the group has come up to its value at a share, if it grows
abbrev pub IsUp : Wan → ℕ → ℕ → Standing → Type 0
IsUp wan share group (Grows place base) = base ≡ wan.value group share
IsUp wan share group (Stopped at) = Unit {0}

-- the same, if it grows over the link
abbrev pub IsUpOver : Wan → ℕ → ℕ → ℕ → Standing → Type 0
IsUpOver wan link share group (Grows place base) =
    uses (path_group_at wan.groups group place) link ≡ true → base ≡ wan.value group share
IsUpOver wan link share group (Stopped at) = Unit {0}

-- what is filled is as it was
pub record KeepsNetwork {V : Type 0} (old new : Growth V) : Type 0 where
  pub values : new.values.now ≡ old.values.now
  pub topology : new.topology.now ≡ old.topology.now
  pub plan : new.plan.now ≡ old.plan.now

-- the closings and what is filled are as they were
pub record KeepsParts {V : Type 0} (old new : Growth V) : Type 0 where
  pub network : KeepsNetwork old new
  pub closings : new.closings ≡ old.closings
