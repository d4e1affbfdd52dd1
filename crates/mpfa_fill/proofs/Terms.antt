-- The load of one link, from what was added to what the groups have, group by group.
use Rattle.std.proofs.Common.{◌≡◌, ℕ, ◌+◌, ◌≤◌, Bool, true, false, List, [], ◌∷◌, ◌++◌, length, Option, Some, refl, sym, ◌∙◌, ap, arith, slice_index_or}
use Rattle.std.proofs.lemmas.List.Sums.{sum_by_push}
use Rattle.bwe_specs.specs.declared.network.Closing.{Closing}
use Rattle.bwe_specs.specs.Bounded.{sum_below}
use Rattle.bwe_specs.specs.Paths.{path_group_at, path_group_count, load_on, link_load}
use Rattle.bwe_specs.specs.Filling.{Wan, closed_links, current_path_group_of, is_at}
use Rattle.bwe_specs.specs.RightClosings.{last_share, amounts_at}
use Rattle.bwe_specs.proofs.Bounds.{sum_below-one, sum_below-same, sum_below-more}
use Rattle.bwe_specs.proofs.Growth.{is_at-true}
use Rattle.bwe_specs.proofs.Loads.{current-open, load_on-unused}
use Rattle.mpfa_fill.specs.LastFit.{GrowsNotOver}
use Rattle.mpfa_fill.specs.declared.growth.Term.{Term}
use Rattle.mpfa_fill.specs.Growth.{HasElsewhere, IsTermOf, terms_load}

-- what the amounts of one group put on the link
abbrev pub row_load : Wan → ℕ → (ℕ → ℕ → ℕ) → ℕ → ℕ
row_load wan link amounts group = sum_below (path_group_count wan.groups group) (λ place. load_on (path_group_at wan.groups group place) link (amounts group place))

-- what the groups below a number put on the link differs from what was added as the terms do
abbrev pub Follows : Wan → List Closing → (ℕ → ℕ → ℕ) → ℕ → ℕ → List Term → Type 0
Follows wan closings added link count terms = (share : ℕ) → last_share closings ≤ share → share ≤ wan.top
    → sum_below count (row_load wan link (amounts_at wan closings share)) + terms_load wan link added terms
    ≡ sum_below count (row_load wan link added) + terms_load wan link (amounts_at wan closings share) terms

at-other : (o : Option ℕ) (found place : ℕ) → o ≡ Some found → (place ≡ found → ⊥) → (at : Bool) → is_at o place ≡ at → at ≡ false
at-other o found place e other true is =
    let same : Some found ≡ Some place = sym e ∙ is_at-true o place is in
    absurd (other (cc))
at-other o found place e other false is = refl

module _ (wan : Wan) (closings : List Closing) (added : ℕ → ℕ → ℕ) (link : ℕ) (elsewhere : HasElsewhere wan closings added) where
  pub follows-start : Follows wan closings added link 0 []
  unfolding sum_below
  follows-start share after upto = refl

  pub follows-end : (terms : List Term) → Follows wan closings added link (length wan.groups) terms → (share : ℕ) → last_share closings ≤ share → share ≤ wan.top
      → link_load wan.groups (amounts_at wan closings share) link + terms_load wan link added terms ≡ link_load wan.groups added link + terms_load wan link (amounts_at wan closings share) terms
  unfolding link_load
  follows-end terms follows share after upto = follows share after upto

  -- a group that does not grow over the link puts on it what was added
  row-none : (count : ℕ) → GrowsNotOver wan closings link count → (share : ℕ) → last_share closings ≤ share → share ≤ wan.top
      → row_load wan link (amounts_at wan closings share) count ≡ row_load wan link added count
  row-none count unused share after upto =
      sum_below-same (path_group_count wan.groups count) _ _ (λ place pl. go place (is_at (current_path_group_of wan closings count) place) refl) where
        go : (place : ℕ) (at : Bool) → is_at (current_path_group_of wan closings count) place ≡ at
            → load_on (path_group_at wan.groups count place) link (amounts_at wan closings share count place) ≡ load_on (path_group_at wan.groups count place) link (added count place)
        go place false e = ap (load_on (path_group_at wan.groups count place) link) (elsewhere count place share e after upto)
        go place true e =
            let none = unused place (is_at-true (current_path_group_of wan closings count) place e) in
            load_on-unused (path_group_at wan.groups count place) link (amounts_at wan closings share count place) none
            ∙ sym (load_on-unused (path_group_at wan.groups count place) link (added count place) none)

  pub follows-none : (count : ℕ) (terms : List Term) → GrowsNotOver wan closings link count → Follows wan closings added link count terms → Follows wan closings added link (count + 1) terms
  follows-none count terms unused follows share after upto =
      omega (
        arith,
        follows share after upto,
        row-none count unused share after upto,
        sum_below-more count (row_load wan link (amounts_at wan closings share)),
        sum_below-more count (row_load wan link added),
      )

  -- one that does is a term more
  pub follows-some : (count : ℕ) (terms : List Term) (term : Term) → IsTermOf wan closings added link count term → Follows wan closings added link count terms → Follows wan closings added link (count + 1) (terms ++ term ∷ [])
  follows-some count terms term is follows share after upto =
      let current = current_path_group_of wan closings count in
      let inside = (current-open (slice_index_or wan.groups count []) (closed_links closings) term.place is.grows).0 in
      let load : (ℕ → ℕ → ℕ) → Term → ℕ = λ x t. load_on (path_group_at wan.groups t.group t.place) link (x t.group t.place) in
      let here : (x : ℕ → ℕ → ℕ) → load x term ≡ load_on (path_group_at wan.groups count term.place) link (x count term.place) =
      λ x. ap (λ group. load_on (path_group_at wan.groups group term.place) link (x group term.place)) is.group_is in
      let one =
      sum_below-one (path_group_count wan.groups count) term.place
      (λ place. load_on (path_group_at wan.groups count place) link (added count place))
      (λ place. load_on (path_group_at wan.groups count place) link (amounts_at wan closings share count place))
      inside
      (λ place pl other. ap (load_on (path_group_at wan.groups count place) link)
      (sym (elsewhere count place share (at-other (current_path_group_of wan closings count) term.place place is.grows other (is_at (current_path_group_of wan closings count) place) refl) after upto))) in
      omega (
        arith,
        follows share after upto,
        one,
        here added,
        here (amounts_at wan closings share),
        sum_by_push (load added) terms term,
        sum_by_push (load (amounts_at wan closings share)) terms term,
        sum_below-more count (row_load wan link (amounts_at wan closings share)),
        sum_below-more count (row_load wan link added),
      )
