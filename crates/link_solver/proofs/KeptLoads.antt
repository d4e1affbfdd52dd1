-- What one group's move at a closing changes of the load of a link.
use Rattle.std.proofs.Common.{◌≡◌, ℕ, ◌+◌, ◌-◌, ◌<◌, ◌≤◌, Bool, true, false, List, [], ◌∷◌, Option, Some, None, refl, sym, ◌∙◌, ap, arith}
use Rattle.bwe_specs.specs.declared.network.Closing.{Closing}
use Rattle.bwe_specs.specs.Bounded.{sum_below}
use Rattle.bwe_specs.specs.Paths.{path_group_at, path_group_count, load_on, uses}
use Rattle.bwe_specs.specs.Filling.{Wan, current_path_group_of, is_at, growth}
use Rattle.bwe_specs.specs.RightClosings.{last_share, amounts_at}
use Rattle.bwe_specs.specs.Values.{NeverFalls}
use Rattle.bwe_specs.proofs.Bounds.{sum_below-one, sum_below-same}
use Rattle.bwe_specs.proofs.Growth.{growth-off, growth-on, is_at-true}
use Rattle.bwe_specs.proofs.Loads.{load_on-unused}
use Rattle.mpfa_fill.specs.Growth.{HasThere, HasElsewhere}
use Rattle.link_solver.specs.Dues.{group_load}
use Rattle.link_solver.proofs.Changes.{amounts-rise}

-- a group that keeps its path group puts on a link what it did
module _ (wan : Wan) (never : NeverFalls wan) (earlier : List Closing) (closing : Closing) (last : last_share earlier ≤ closing.share) (group share : ℕ) (from : closing.share ≤ share) (upto : share ≤ wan.top) where
  after : (place : ℕ) → amounts_at wan (closing ∷ earlier) share group place ≡ amounts_at wan earlier closing.share group place + growth wan (closing ∷ earlier) closing.share share group place
  unfolding amounts_at
  after place = refl

  amounts-same : current_path_group_of wan (closing ∷ earlier) group ≡ current_path_group_of wan earlier group → (place : ℕ) → amounts_at wan (closing ∷ earlier) share group place ≡ amounts_at wan earlier share group place
  amounts-same same place = go (is_at (current_path_group_of wan earlier group) place) refl where
    go : (at : Bool) → is_at (current_path_group_of wan earlier group) place ≡ at → amounts_at wan (closing ∷ earlier) share group place ≡ amounts_at wan earlier share group place
    go false e = omega (
      arith,
      after place,
      amounts-rise wan never earlier closing.share share group place last from upto,
      growth-off wan earlier closing.share share group place e,
      growth-off wan (closing ∷ earlier) closing.share share group place (ap (λ o. is_at o place) same ∙ e),
    )
    go true e = omega (
      arith,
      after place,
      amounts-rise wan never earlier closing.share share group place last from upto,
      growth-on wan earlier closing.share share group place e,
      growth-on wan (closing ∷ earlier) closing.share share group place (ap (λ o. is_at o place) same ∙ e),
    )

  pub load-same : current_path_group_of wan (closing ∷ earlier) group ≡ current_path_group_of wan earlier group → (link : ℕ) → group_load wan (closing ∷ earlier) share link group ≡ group_load wan earlier share link group
  load-same same link = sum_below-same (path_group_count wan.groups group) _ _ (λ place lt. ap (load_on (path_group_at wan.groups group place) link) (amounts-same same place))

-- what was added of a group on all its path groups puts so much on a link
abbrev pub base_load : Wan → (ℕ → ℕ → ℕ) → ℕ → ℕ → ℕ
base_load wan added link group =
    sum_below (path_group_count wan.groups group)
    (λ place. load_on (path_group_at wan.groups group place) link (added group place))

-- a group that grows on a path group has that, and there its value above a base
module _ (wan : Wan) (closings : List Closing) (added : ℕ → ℕ → ℕ) (elsewhere : HasElsewhere wan closings added) (group share : ℕ) (from : last_share closings ≤ share) (upto : share ≤ wan.top) (link : ℕ) where
  not-at : (o : Option ℕ) (place other : ℕ) → o ≡ Some place → (other ≡ place → ⊥) → (at : Bool) → is_at o other ≡ at → at ≡ false
  not-at o place other e apart false is = refl
  not-at o place other e apart true is =
      let some : Some place ≡ Some other = sym e ∙ is_at-true o other is in
      let same : place ≡ other = cc in
      absurd (apart (sym same))

  not-none : (o : Option ℕ) (other : ℕ) → o ≡ None → (at : Bool) → is_at o other ≡ at → at ≡ false
  not-none o other e false is = refl
  not-none o other e true is = let no : None ≡ Some other = sym e ∙ is_at-true o other is in absurd (cc)

  pub load-grown : (place base : ℕ) → place < path_group_count wan.groups group → current_path_group_of wan closings group ≡ Some place → HasThere wan closings added group place base → base ≤ wan.value group share
      → group_load wan closings share link group + load_on (path_group_at wan.groups group place) link (added group place)
      ≡ base_load wan added link group + load_on (path_group_at wan.groups group place) link (added group place + (wan.value group share - base))
  load-grown place base inside current has le =
      let amount : amounts_at wan closings share group place ≡ added group place + (wan.value group share - base) = omega (arith, has share from upto, le) in
      sum_below-one (path_group_count wan.groups group) place
      (λ k. load_on (path_group_at wan.groups group k) link (added group k))
      (λ k. load_on (path_group_at wan.groups group k) link (amounts_at wan closings share group k))
      inside
      (λ k kl apart. ap (load_on (path_group_at wan.groups group k) link) (sym (elsewhere group k share (not-at (current_path_group_of wan closings group) place k current apart (is_at (current_path_group_of wan closings group) k) refl) from upto)))
      ∙ ap (λ a. base_load wan added link group + load_on (path_group_at wan.groups group place) link a) amount

  pub load-rested : current_path_group_of wan closings group ≡ None → group_load wan closings share link group ≡ base_load wan added link group
  load-rested none =
      sum_below-same (path_group_count wan.groups group) _ _
      (λ k kl. ap (load_on (path_group_at wan.groups group k) link) (elsewhere group k share (not-none (current_path_group_of wan closings group) k none (is_at (current_path_group_of wan closings group) k) refl) from upto))

-- no path group puts nothing on a link
pub no-load : (link amount : ℕ) → load_on [] link amount ≡ 0
unfolding uses
no-load link amount = load_on-unused [] link amount refl
