-- What the groups may have at each share, and what is filled with it.
use Rattle.std.specs.Prelude.{ℕ, List}
use Rattle.bwe_specs.specs.Paths.{PathGroups}
use Rattle.bwe_specs.specs.Filling.{Wan}
use Rattle.bwe_specs.specs.Values.{AreValues}

-- the value of each group at each share up to a top share
pub record Values : Type 0 where
  pub groups : ℕ
  pub top : ℕ
  pub value : ℕ → ℕ → ℕ

-- they are 0 at share 0 and never fall, and few enough to be summed
abbrev pub AreGroupValues : Values → Type 0
AreGroupValues values = AreValues values.groups values.top values.value

-- what is filled: values, each group's path groups, each link's capacity
abbrev pub wan_of : Values → List PathGroups → List ℕ → Wan
wan_of values groups capacities =
    record { top = values.top; value = values.value; groups = groups; capacities = capacities }
