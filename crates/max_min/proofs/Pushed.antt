-- Amounts that a closed link allows are somewhere below what one share more would have given.
use Rattle.std.proofs.Common.{◌≡◌, ℕ, zero, suc, ◌<◌, ◌≤◌, Bool, true, false, List, length, slice_index, refl, ◌⊎◌, inl, inr, arith}
use Rattle.std.proofs.lemmas.Bool.{cases_lt}
use Rattle.bwe_specs.specs.declared.network.Closing.{Closing}
use Rattle.bwe_specs.specs.Bounded.{sum_below}
use Rattle.bwe_specs.specs.Paths.{PathGroup, PathGroups, path_group_at, path_group_count, load_on, link_load, uses}
use Rattle.bwe_specs.specs.Filling.{Wan, filling}
use Rattle.bwe_specs.specs.RightClosings.{amounts_at}
use Rattle.bwe_specs.specs.Values.{NeverFalls}
use Rattle.bwe_specs.proofs.Loads.{load_on-mono, load_on-unused, lowest_over-is_over}
use Rattle.table_laws.specs.Growing.{StandsIn}
use Rattle.table_laws.proofs.Wasted.{right}

-- of two sums the lower has a lower amount somewhere
pub sum_below-less : (n : ℕ) (f g : ℕ → ℕ) → sum_below n f < sum_below n g → (i : ℕ) × (i < n) × (f i < g i)
unfolding sum_below
sum_below-less zero f g lt = absurd (omega arith)
sum_below-less (suc n) f g lt =
    elim (cases_lt (f n) (g n)) [
      | inl here ↦ (n, omega arith, here)
      | inr not ↦ let before = sum_below-less n f g (omega arith) in (before.0, omega (arith, before.1), before.2)
    ]

-- a lower load comes of a lower amount, on a path group that uses the link
load_on-less : (path_group : PathGroup) (link a b : ℕ) → load_on path_group link a < load_on path_group link b → (uses path_group link ≡ true) × (a < b)
load_on-less path_group link a b lt = (go (uses path_group link) refl, less (cases_lt a b)) where
  go : (u : Bool) → uses path_group link ≡ u → u ≡ true
  go true used = refl
  go false unused = absurd (omega (arith, load_on-unused path_group link b unused))

  less : (a < b) ⊎ (b ≤ a) → a < b
  less (inl below) = below
  less (inr above) = absurd (omega (arith, load_on-mono path_group link b a above))

-- so it is with a link's loads
pub link_load-less : (groups : List PathGroups) (x y : ℕ → ℕ → ℕ) (link : ℕ) → link_load groups x link < link_load groups y link
    → (group : ℕ) × (place : ℕ) × (group < length groups) × (place < path_group_count groups group) × (uses (path_group_at groups group place) link ≡ true) × (x group place < y group place)
unfolding link_load
link_load-less groups x y link lt =
    let load : (ℕ → ℕ → ℕ) → ℕ → ℕ → ℕ = λ z group place. load_on (path_group_at groups group place) link (z group place) in
    let outer = sum_below-less (length groups) (λ group. sum_below (path_group_count groups group) (load x group)) (λ group. sum_below (path_group_count groups group) (load y group)) lt in
    let inner = sum_below-less (path_group_count groups outer.0) (load x outer.0) (load y outer.0) outer.2 in
    let less = load_on-less (path_group_at groups outer.0 inner.0) link (x outer.0 inner.0) (y outer.0 inner.0) inner.2 in
    (outer.0, inner.0, outer.1, inner.1, less.0, less.1)

-- under any other amounts that a closed link allows
pub pushed-out : (wan : Wan) → NeverFalls wan → (closing : Closing) (earlier : List Closing) → StandsIn (filling wan).closings closing earlier
    → (other : ℕ → ℕ → ℕ) → link_load wan.groups other closing.link ≤ slice_index wan.capacities closing.link
    → (group : ℕ) × (place : ℕ) × (group < length wan.groups) × (place < path_group_count wan.groups group)
    × (uses (path_group_at wan.groups group place) closing.link ≡ true) × (other group place < amounts_at wan earlier (suc closing.share) group place)
pushed-out wan never closing earlier stands other fits =
    let right_so_far = right wan never stands.later closing earlier stands.stands in
    let over = lowest_over-is_over wan.groups wan.capacities (amounts_at wan earlier (suc closing.share)) closing.link right_so_far.1.over_at_next in
    link_load-less wan.groups other (amounts_at wan earlier (suc closing.share)) closing.link (omega (arith, fits, over.1))
