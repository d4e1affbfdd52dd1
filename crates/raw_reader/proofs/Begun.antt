-- Where a stretch begins, of which pieces were read.
use Rattle.std.proofs.Common.{◌≡◌, List, ◌⊎◌, Option, Some, None, inl, inr, subst}
use Rattle.json.specs.Token.{Token}
use Rattle.raw_reader.specs.Pieces.{BeginsAt}
use Rattle.raw_reader.specs.declared.pieces.Place.{Place}

-- no piece was read, or the first one began at the place
abbrev pub Begun : Place → List Token → Option Place → List Token → Type 0
Begun first text place now = ((place ≡ Some first) × (now ≡ text)) ⊎ BeginsAt first text

same_place : (first now : Place) (place : Option Place) → place ≡ Some first → place ≡ Some now → now ≡ first
same_place first now place e f = cc

pub begun : (first now : Place) (text ts : List Token) (place : Option Place) → Begun first text place ts → place ≡ Some now → BeginsAt now ts → BeginsAt first text
begun first now text ts place (inl is) at begins = subst (λ p. BeginsAt p text) (same_place first now place is.0 at) (subst (BeginsAt now) is.1 begins)
begun first now text ts place (inr begins) at h = begins

pub over : (first : Place) (text ts : List Token) (place : Option Place) → Begun first text place ts → place ≡ None → BeginsAt first text
over first text ts place (inl is) none = let both = is.0 in absurd cc
over first text ts place (inr begins) none = begins
