-- Places that are shut by one more link.
use Rattle.std.proofs.Common.{◌≡◌, ℕ, Bool, not, ◌||◌, List, ◌∷◌, reverse, sym, ◌∙◌, ap, ap₂}
use Rattle.std.specs.List.{list_any}
use Rattle.bwe_specs.specs.declared.network.Closing.{Closing}
use Rattle.bwe_specs.specs.Paths.{PathGroup, uses, is_open}
use Rattle.bwe_specs.specs.Filling.{closed_links}
use Rattle.path_groups.proofs.Paths.{any_map}
use Rattle.mpfa_fill.proofs.Places.{any-reverse}

-- a place is open under one more closed link where it uses neither that nor the link of a closing
pub opens : (place : PathGroup) (closings : List Closing) (link : ℕ) (b u : Bool) → b ≡ list_any (λ closing. uses place closing.link) closings → u ≡ uses place link
    → is_open (link ∷ closed_links (reverse closings)) place ≡ not (u || b)
unfolding is_open
opens place closings link b u e f =
    ap not (ap₂ (λ x y. x || y) (sym f) (any_map (uses place) (λ closing. closing.link) (reverse closings) ∙ any-reverse (λ closing. uses place closing.link) closings ∙ sym e))
