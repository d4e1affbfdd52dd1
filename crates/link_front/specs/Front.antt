-- A growth, where the groups that use each link are known.
use Rattle.std.specs.Prelude.{◌≡◌, ℕ, ◌<◌, List, length, slice_index_or}
use Rattle.bwe_specs.specs.declared.network.Closing.{Closing}
use Rattle.bwe_specs.specs.Filling.{Wan}
use Rattle.mpfa_fill.specs.GroupValues.{Values}
use Rattle.mpfa_fill.specs.declared.growth.ValueAt.{ValueAt}
use Rattle.mpfa_fill.specs.declared.standing.Standing.{Standing}
use Rattle.mpfa_fill.specs.Growth.{IsGrowth, KeepsParts as KeepsGrowth}
use Rattle.mpfa_fill.specs.Growth.{wan_in as growth_wan, closings_in as growth_closings}
use Rattle.mpfa_fill.specs.Growth.{added_in as growth_added, standing_at as growth_standing}
use Rattle.link_front.specs.declared.front.Front.{Front}

-- what is filled
abbrev pub wan_in : {V : Type 0} → (V → Values) → Front V → Wan
wan_in meaning front = growth_wan meaning front.growth

-- the closings, with the newest first
abbrev pub closings_in : {V : Type 0} → Front V → List Closing
closings_in front = growth_closings front.growth

-- what was added of each group on each path group
abbrev pub added_in : {V : Type 0} → Front V → ℕ → ℕ → ℕ
added_in front = growth_added front.growth

-- how a group is held, and the base above which it has its value
abbrev pub standing_at : {V : Type 0} → Front V → ℕ → Standing
standing_at front group = growth_standing front.growth group

-- the closings are in order, each group is held under them, and the groups that use each link are
-- known
pub record IsFront {V : Type 0} (meaning : V → Values) (front : Front V) : Type 0 where
  pub listed : front.by_link.now ≡ (wan_in meaning front).groups
  pub growth : IsGrowth meaning front.growth

-- the closings and what is filled are as they were
pub record KeepsParts {V : Type 0} (old new : Front V) : Type 0 where
  pub growth : KeepsGrowth old.growth new.growth
  pub by_link : new.by_link.now ≡ old.by_link.now

-- what is known of a group
abbrev pub value_at : List ValueAt → ℕ → ValueAt
value_at known group = slice_index_or known group (record { share = 0; value = 0 })

-- of each group its value at one share is known
pub record AreKnown (wan : Wan) (known : List ValueAt) : Type 0 where
  pub each_group : length known ≡ length wan.groups
  pub each : (group : ℕ) → group < length wan.groups
      → (value_at known group).value ≡ wan.value group (value_at known group).share
