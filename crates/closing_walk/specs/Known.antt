-- What is known of the values of groups at two shares.
use Rattle.std.specs.Prelude.{◌≡◌, ℕ, List, replicate}
use Rattle.bwe_specs.specs.Filling.{Wan}
use Rattle.mpfa_fill.specs.declared.growth.ValueAt.{ValueAt}
use Rattle.link_front.specs.Front.{AreKnown}
use Rattle.closing_walk.specs.declared.known.KnownValues.{KnownValues}

-- of each group its value at an even share is known, and at an odd one
pub record AreKnownTwice (wan : Wan) (known : KnownValues) : Type 0 where
  pub even : AreKnown wan known.even.items
  pub odd : AreKnown wan known.odd.items

-- so many groups have nothing at share 0
abbrev pub nothing : ℕ → List ValueAt
nothing groups = replicate groups (record { share = 0; value = 0 })

pub record IsFresh (groups : ℕ) (known : KnownValues) : Type 0 where
  pub even : known.even.items ≡ nothing groups
  pub odd : known.odd.items ≡ nothing groups
