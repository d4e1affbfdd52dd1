-- What groups without a fault are like.
use Rattle.std.proofs.Common.{◌≡◌, ℕ, zero, suc, ◌*◌, ◌<◌, ◌≤◌, Bool, true, false, List, [], ◌∷◌, length, refl, sym, ◌∙◌, arith, get_or, Some, None, Option, inl, inr, ◌==◌}
use Rattle.std.specs.Prelude.{All}
use Rattle.std.proofs.lemmas.Bool.{cases_lt}
use Rattle.std.proofs.lemmas.List.Sums.{sum_by-cons}
use Rattle.bwe_specs.proofs.Lists.{neither}
use Rattle.bwe_specs.specs.Paths.{Path, PathGroup, weight_of}
use Rattle.wan_topology.specs.Network.{Network}
use Rattle.path_groups.specs.declared.fault.PathFault.{PathFault}
use Rattle.bwe_specs.specs.Given.{Group}
use Rattle.path_groups.specs.Faults.{first_fault, is_chain, path_fault, path_group_fault, group_fault, plan_fault}
use Rattle.path_groups.proofs.CauseOrder.{path_fault-long, path_fault-light, path_fault-heavy, path_fault-broken, path_group_fault-many, path_group_fault-empty, path_group_fault-first, group_fault-many, group_fault-empty, group_fault-first}

-- a path without a fault
pub record IsSoundPath (network : Network) (group : Group) (path : Path) : Type 0 where
  pub weighs : 1 ≤ path.weight
  pub is_light : path.weight ≤ 1_000
  pub chain : is_chain network group.from group.to path.links ≡ true

-- a path group without a fault
pub record IsSoundPathGroup (network : Network) (group : Group) (paths : PathGroup) : Type 0 where
  pub some_path : 1 ≤ length paths
  pub few_paths : length paths ≤ 16
  pub each_path : All (IsSoundPath network group) paths

-- a group without a fault
pub record IsSoundGroup (network : Network) (group : Group) : Type 0 where
  pub some_place : 1 ≤ length group.path_groups
  pub few_places : length group.path_groups ≤ 16
  pub each_place : All (IsSoundPathGroup network group) group.path_groups

-- where there is no first fault, no item has a fault
first_fault-none : {A : Type 0} (fault : ℕ → A → Option PathFault) (n : ℕ) (items : List A) → first_fault fault n items ≡ None → (k : ℕ) (d : A) → k < length items → (number : ℕ) × (fault number (get_or items k d) ≡ None)
unfolding first_fault
first_fault-none fault n [] none k d lt = absurd (omega arith)
first_fault-none fault n (item ∷ later) none zero d lt = (n, (neither (fault n item) (first_fault fault (suc n) later) none).0)
first_fault-none fault n (item ∷ later) none (suc k) d lt = first_fault-none fault (suc n) later (neither (fault n item) (first_fault fault (suc n) later) none).1 k d (omega arith)

contradicts : {A B : Type 0} {o : Option A} {x : A} → o ≡ Some x → o ≡ None → B
contradicts some none = absurd (cc)

path-sound : (network : Network) (number : ℕ) (group : Group) (place path_number : ℕ) (path : Path) → path_fault network number group place path_number path ≡ None → IsSoundPath network group path
path-sound network number group place path_number path none = record { weighs = weighs; is_light = is_light; chain = chain (is_chain network group.from group.to path.links) refl } where
  short : length path.links ≤ 32
  short = elim (cases_lt 32 (length path.links)) [ inl long ↦ contradicts (path_fault-long network number group place path_number path long) none | inr within ↦ within ]

  weighs : 1 ≤ path.weight
  weighs = elim (cases_lt path.weight 1) [ inl light ↦ contradicts (path_fault-light network number group place path_number path short light) none | inr within ↦ within ]

  is_light : path.weight ≤ 1_000
  is_light = elim (cases_lt 1_000 path.weight) [ inl heavy ↦ contradicts (path_fault-heavy network number group place path_number path short weighs heavy) none | inr within ↦ within ]

  chain : (b : Bool) → is_chain network group.from group.to path.links ≡ b → is_chain network group.from group.to path.links ≡ true
  chain true e = e
  chain false e = contradicts (path_fault-broken network number group place path_number path short weighs is_light e) none

path_group-sound : (network : Network) (number : ℕ) (group : Group) (place : ℕ) (paths : PathGroup) → path_group_fault network number group place paths ≡ None → IsSoundPathGroup network group paths
path_group-sound network number group place paths none = record {
  some_path = elim (cases_lt (length paths) 1) [ inl empty ↦ contradicts (path_group_fault-empty network number group place paths (zero-test (length paths) empty)) none | inr within ↦ within ];
  few_paths = few;
  each_path = each (length paths == 0) refl;
} where
  zero-test : (n : ℕ) → n < 1 → (n == 0) ≡ true
  zero-test zero lt = refl
  zero-test (suc n) lt = absurd (omega arith)

  few : length paths ≤ 16
  few = elim (cases_lt 16 (length paths)) [ inl many ↦ contradicts (path_group_fault-many network number group place paths many) none | inr within ↦ within ]

  each : (b : Bool) → (length paths == 0) ≡ b → All (IsSoundPath network group) paths
  each true e = contradicts (path_group_fault-empty network number group place paths e) none
  each false e = λ k d lt.
      let found = first_fault-none (path_fault network number group place) 0 paths (sym (path_group_fault-first network number group place paths e few) ∙ none) k d lt in
      path-sound network number group place found.0 (get_or paths k d) found.1

group-sound : (network : Network) (number : ℕ) (group : Group) → group_fault network number group ≡ None → IsSoundGroup network group
group-sound network number group none = record {
  some_place = elim (cases_lt (length group.path_groups) 1) [ inl empty ↦ contradicts (group_fault-empty network number group few (zero-test (length group.path_groups) empty)) none | inr within ↦ within ];
  few_places = few;
  each_place = each (length group.path_groups == 0) refl;
} where
  zero-test : (n : ℕ) → n < 1 → (n == 0) ≡ true
  zero-test zero lt = refl
  zero-test (suc n) lt = absurd (omega arith)

  few : length group.path_groups ≤ 16
  few = elim (cases_lt 16 (length group.path_groups)) [ inl many ↦ contradicts (group_fault-many network number group many) none | inr within ↦ within ]

  each : (b : Bool) → (length group.path_groups == 0) ≡ b → All (IsSoundPathGroup network group) group.path_groups
  each true e = contradicts (group_fault-empty network number group few e) none
  each false e = λ k d lt.
      let found = first_fault-none (path_group_fault network number group) 0 group.path_groups (sym (group_fault-first network number group few e) ∙ none) k d lt in
      path_group-sound network number group found.0 (get_or group.path_groups k d) found.1

-- no group of an input without a fault has one
pub plan-sound : (network : Network) (groups : List Group) → plan_fault network groups ≡ None → All (IsSoundGroup network) groups
unfolding plan_fault
plan-sound network groups none k d lt =
    let found = first_fault-none (group_fault network) 0 groups none k d lt in
    group-sound network found.0 (get_or groups k d) found.1

-- the weights of sound paths
pub weight_of-sound : (network : Network) (group : Group) (paths : PathGroup) → All (IsSoundPath network group) paths → (length paths ≤ weight_of paths) × (weight_of paths ≤ 1_000 * length paths)
unfolding weight_of
weight_of-sound network group [] all = (omega arith, omega arith)
weight_of-sound network group (path ∷ later) all =
    let first : IsSoundPath network group path = all 0 path (omega arith) in
    let rest = weight_of-sound network group later (λ k d lt. all (suc k) d (omega arith)) in
    rw (sum_by-cons (λ other. other.weight) path later) (omega (arith, first.weighs, rest.0), omega (arith, first.is_light, rest.1))
