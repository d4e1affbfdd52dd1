-- Loads are at most all amounts together, and what becomes of both as one amount changes.
use Rattle.std.proofs.Common.{◌≡◌, ℕ, ◌+◌, ◌*◌, ◌/◌, ◌%◌, ◌<◌, ◌≤◌, min, List, length, sym, arith, mul-le-mul_left, add-mul, one-mul, lt_of_mul-lt-mul_right}
use Rattle.std.proofs.lemmas.Grind.{div_ceil_times}
use Rattle.bwe_specs.specs.Bounded.{sum_below}
use Rattle.bwe_specs.specs.Paths.{PathGroup, PathGroups, path_group_at, path_group_count, weight_of, weight_over, load_on, link_load}
use Rattle.bwe_specs.proofs.Bounds.{sum_below-mono, sum_below-one, sum_below-same, sum_below-term}
use Rattle.bwe_specs.proofs.Loads.{weight_over-le, link_load-one}
use Rattle.path_groups.specs.Plan.{IsPlan}
use Rattle.link_sums.specs.Sums.{amount_at, RaisesAmount, total_of}

-- the load of an amount is at most the amount
load_on-le : (path_group : PathGroup) (link amount : ℕ) → 1 ≤ weight_of path_group → load_on path_group link amount ≤ amount
unfolding load_on
load_on-le path_group link amount weighs =
    let whole = weight_of path_group in
    let bound = div_ceil_times (amount * weight_over path_group link) whole weighs in
    let part : amount * weight_over path_group link ≤ amount * whole = mul-le-mul_left amount (weight_over-le path_group link) in
    let below : (amount * weight_over path_group link / whole + min 1 ((amount * weight_over path_group link) % whole)) * whole < (amount + 1) * whole =
    rw (add-mul amount 1 whole, one-mul whole) (omega (arith, bound.1)) in
    omega (arith, lt_of_mul-lt-mul_right whole below)

-- a link's load is at most all amounts together
pub link_load-le : (groups : List PathGroups) → IsPlan groups → (rows : List (List ℕ)) (link : ℕ) → link_load groups (amount_at rows) link ≤ total_of groups rows
unfolding link_load
link_load-le groups plan rows link =
    sum_below-mono (length groups) _ _ (λ group lt. sum_below-mono (path_group_count groups group) _ _ (λ place within. load_on-le (path_group_at groups group place) link (amount_at rows group place) (plan.weighs group place lt within)))

-- an amount is at most all together
pub amount-le : (groups : List PathGroups) (rows : List (List ℕ)) (group place : ℕ) → group < length groups → place < path_group_count groups group → amount_at rows group place ≤ total_of groups rows
amount-le groups rows group place lt within =
    omega (arith, sum_below-term (path_group_count groups group) place (amount_at rows group) within, sum_below-term (length groups) group (λ g. sum_below (path_group_count groups g) (amount_at rows g)) lt)

module _ (groups : List PathGroups) (old new : List (List ℕ)) (group place more : ℕ) (lt : group < length groups) (within : place < path_group_count groups group) (raises : RaisesAmount old new group place more) where
  -- all amounts together have grown by as much
  pub total_of-raised : total_of groups new ≡ total_of groups old + more
  total_of-raised =
      let row : List (List ℕ) → ℕ → ℕ = λ rows g. sum_below (path_group_count groups g) (amount_at rows g) in
      let inside : row new group + amount_at old group place ≡ row old group + amount_at new group place =
      sum_below-one (path_group_count groups group) place (amount_at old group) (amount_at new group) within (λ p below other. sym (raises.others group p (λ e f. other f))) in
      let outside : sum_below (length groups) (row new) + row old group ≡ sum_below (length groups) (row old) + row new group =
      sum_below-one (length groups) group (row old) (row new) lt (λ g below other. sum_below-same (path_group_count groups g) _ _ (λ p under. sym (raises.others g p (λ e f. other e)))) in
      omega (arith, inside, outside, raises.raised)

  -- a link's load changes by one term
  pub link_load-raised : (link : ℕ) → link_load groups (amount_at new) link + load_on (path_group_at groups group place) link (amount_at old group place)
      ≡ link_load groups (amount_at old) link + load_on (path_group_at groups group place) link (amount_at new group place)
  link_load-raised link = link_load-one groups (amount_at old) (amount_at new) link group place lt within (λ g p other. sym (raises.others g p other))

-- one term is at most the whole load
pub load_on-le_link_load : (groups : List PathGroups) (rows : List (List ℕ)) (group place link : ℕ) → group < length groups → place < path_group_count groups group
    → load_on (path_group_at groups group place) link (amount_at rows group place) ≤ link_load groups (amount_at rows) link
unfolding link_load
load_on-le_link_load groups rows group place link lt within =
    omega (
      arith,
      sum_below-term (path_group_count groups group) place (λ p. load_on (path_group_at groups group p) link (amount_at rows group p)) within,
      sum_below-term (length groups) group (λ g. sum_below (path_group_count groups g) (λ p. load_on (path_group_at groups g p) link (amount_at rows g p))) lt,
    )
