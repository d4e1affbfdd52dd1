-- A moment of a filling, as the code keeps it.
use Rattle.std.specs.Prelude.{◌≡◌, ◌≤◌}
use Rattle.bwe_specs.specs.Filling.{Wan, State}
use Rattle.bwe_specs.specs.RightClosings.{last_share, amounts_at, AreRight}
use Rattle.mpfa_fill.specs.GroupValues.{Values}
use Rattle.mpfa_fill.specs.declared.moment.Moment.{Moment}
use Rattle.mpfa_fill.specs.Growth.{wan_in as growth_wan, closings_in, added_in, IsGrowth}

-- what is filled
abbrev pub wan_in : {V : Type 0} → (V → Values) → Moment V → Wan
wan_in meaning moment = growth_wan meaning moment.growth

-- the share, the closings with the newest first, and the amounts
abbrev pub state_of : {V : Type 0} → Moment V → State
state_of moment =
    record {
      share = moment.share;
      closings = closings_in moment.growth;
      amounts = added_in moment.growth;
    }

-- the closings are right so far, and what was added is what the groups have at the share
pub record IsMoment {V : Type 0} (meaning : V → Values) (moment : Moment V) : Type 0 where
  pub growth : IsGrowth meaning moment.growth
  pub right : AreRight (wan_in meaning moment) (state_of moment).closings
  pub last : last_share (state_of moment).closings ≤ moment.share
  pub within : moment.share ≤ (wan_in meaning moment).top
  pub amounts : (state_of moment).amounts
      ≡ amounts_at (wan_in meaning moment) (state_of moment).closings moment.share
