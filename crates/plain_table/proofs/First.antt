-- The first of the closings that a path group uses.
use Rattle.std.proofs.Common.{◌≡◌, ℕ, ◌+◌, ◌<◌, true, false, List, [], ◌∷◌, ◌++◌, length, take, drop, get_or, reverse, refl, sym, ap, ◌∙◌, Some, None}
use Rattle.std.proofs.lemmas.List.{take_more, take-append-drop, reverse-append}
use Rattle.bwe_specs.specs.declared.network.Closing.{Closing}
use Rattle.bwe_specs.specs.Bounded.{found_or}
use Rattle.bwe_specs.specs.Paths.{PathGroup, uses}
use Rattle.bwe_specs.specs.Filling.{closed_by}

-- one closing more that is not used
pub first-unused : (group : PathGroup) (closings : List Closing) (at : ℕ) (closing : Closing) → at < length closings
    → closing ≡ get_or closings at closing → uses group closing.link ≡ false → closed_by group (reverse (take at closings)) ≡ None
    → closed_by group (reverse (take (at + 1) closings)) ≡ None
unfolding closed_by found_or
first-unused group closings at closing within is unused none =
    rw (take_more closings at closing within, ← is, reverse-append (take at closings) (closing ∷ []), none, unused) refl

-- what was found among the first closings stands
stands : (group : PathGroup) (later earlier : List Closing) (link : ℕ) → closed_by group earlier ≡ Some link → closed_by group (later ++ earlier) ≡ Some link
unfolding closed_by found_or
stands group [] earlier link found = found
stands group (closing ∷ later) earlier link found = rw (stands group later earlier link found) refl

-- the first that is used
used-here : (group : PathGroup) (closings : List Closing) (at : ℕ) (closing : Closing) → at < length closings
    → closing ≡ get_or closings at closing → uses group closing.link ≡ true → closed_by group (reverse (take at closings)) ≡ None
    → closed_by group (reverse (take (at + 1) closings)) ≡ Some closing.link
unfolding closed_by found_or
used-here group closings at closing within is used none =
    rw (take_more closings at closing within, ← is, reverse-append (take at closings) (closing ∷ []), none, used) refl

pub first-used : (group : PathGroup) (closings : List Closing) (at : ℕ) (closing : Closing) → at < length closings
    → closing ≡ get_or closings at closing → uses group closing.link ≡ true → closed_by group (reverse (take at closings)) ≡ None
    → closed_by group (reverse closings) ≡ Some closing.link
first-used group closings at closing within is used none =
    ap (λ list. closed_by group (reverse list)) (sym (take-append-drop (at + 1) closings))
    ∙ (ap (closed_by group) (reverse-append (take (at + 1) closings) (drop (at + 1) closings))
    ∙ stands group (reverse (drop (at + 1) closings)) (reverse (take (at + 1) closings)) closing.link (used-here group closings at closing within is used none))

-- nothing is used of no closings
pub first-none : (group : PathGroup) → closed_by group [] ≡ None
unfolding closed_by
first-none group = refl
