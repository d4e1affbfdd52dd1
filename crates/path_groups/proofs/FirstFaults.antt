-- The first fault of items that are looked at one by one.
use Rattle.std.proofs.Common.{◌≡◌, ℕ, ◌+◌, ◌<◌, ◌≤◌, List, length, map, ◌∙◌, ap, arith, get_or, drop, Option, Some, None, add-one}
use Rattle.std.specs.Option.{option_or}
use Rattle.std.proofs.Math.Seq.{drop-cons}
use Rattle.std.proofs.lemmas.List.{length-map, drop_all}
use Rattle.path_groups.specs.declared.fault.PathFault.{PathFault}
use Rattle.path_groups.specs.Faults.{first_fault}
use Rattle.path_groups.proofs.Lists.{get_map-item}

first_fault-at : {A : Type 0} (fault : ℕ → A → Option PathFault) (items : List A) (n : ℕ) (item : A) → n < length items → get_or items n item ≡ item
    → first_fault fault n (drop n items) ≡ option_or (fault n item) (first_fault fault (n + 1) (drop (n + 1) items))
unfolding first_fault
first_fault-at fault items n item lt is =
    ap (first_fault fault n) (drop-cons items n item lt) ∙ rw (add-one, is)

module _ {A B : Type 0} (fault : ℕ → B → Option PathFault) (view : A → B) (items : List A) (n : ℕ) where
  -- an item without a fault leaves it to those after it
  pub first_fault-next : (item : A) → n < length items → item ≡ get_or items n item → fault n (view item) ≡ None
      → first_fault fault n (drop n (map view items)) ≡ first_fault fault (n + 1) (drop (n + 1) (map view items))
  first_fault-next item lt is none =
      first_fault-at fault (map view items) n (view item) (omega (arith, length-map items view)) (get_map-item view items n item (view item) lt is)
      ∙ ap (λ first. option_or first (first_fault fault (n + 1) (drop (n + 1) (map view items)))) none

  -- an item with a fault is the first
  pub first_fault-found : (item : A) → n < length items → item ≡ get_or items n item → (found : PathFault) → fault n (view item) ≡ Some found
      → first_fault fault n (drop n (map view items)) ≡ Some found
  first_fault-found item lt is found some =
      first_fault-at fault (map view items) n (view item) (omega (arith, length-map items view)) (get_map-item view items n item (view item) lt is)
      ∙ ap (λ first. option_or first (first_fault fault (n + 1) (drop (n + 1) (map view items)))) some

  -- after all items there is none
  pub first_fault-end : length items ≤ n → first_fault fault n (drop n (map view items)) ≡ None
  unfolding first_fault
  first_fault-end end = ap (first_fault fault n) (drop_all n (map view items) (omega (arith, end, length-map items view)))
