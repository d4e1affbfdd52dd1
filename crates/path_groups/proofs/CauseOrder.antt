-- The faults of a path, a path group and a group, in the order of their causes.
use Rattle.std.proofs.Common.{◌≡◌, ℕ, ◌<◌, ◌≤◌, true, false, List, [], ◌∷◌, length, map, refl, arith, Some, None, ◌==◌, lt-ltb, le-ltb, eqb-true, vec_len}
use Rattle.std.proofs.lemmas.List.{length-map}
use Rattle.bwe_specs.specs.Paths.{Path, PathGroup}
use Rattle.wan_topology.specs.Network.{Network}
use Rattle.path_groups.specs.declared.fault.PathFault.TheVariants.{TooManyPathGroups, NoPath, TooManyPaths, TooManyHops, WeightRange, BrokenPath, RepeatedHop}
use Rattle.bwe_specs.specs.declared.given.PathSpec.{PathSpec}
use Rattle.bwe_specs.specs.declared.given.GroupSpec.{GroupSpec}
use Rattle.bwe_specs.specs.Given.{Group, path_of, path_group_of, group_of}
use Rattle.path_groups.specs.Faults.{first_fault, is_chain, repeats, path_fault, path_group_fault, group_fault}

module _ (network : Network) (number : ℕ) (group : Group) (place path_number : ℕ) (path : Path) where
  pub path_fault-long : 32 < length path.links → path_fault network number group place path_number path ≡ Some (TooManyHops number place path_number)
  unfolding path_fault
  path_fault-long long = let e = lt-ltb 32 (length path.links) long in rw e

  pub path_fault-light : length path.links ≤ 32 → path.weight < 1 → path_fault network number group place path_number path ≡ Some (WeightRange number place path_number)
  unfolding path_fault
  path_fault-light short light = let e = le-ltb 32 (length path.links) short in let f = lt-ltb path.weight 1 light in rw (e, f)

  pub path_fault-heavy : length path.links ≤ 32 → 1 ≤ path.weight → 1_000 < path.weight → path_fault network number group place path_number path ≡ Some (WeightRange number place path_number)
  unfolding path_fault
  path_fault-heavy short weighs heavy = let e = le-ltb 32 (length path.links) short in let f = le-ltb path.weight 1 weighs in let h = lt-ltb 1_000 path.weight heavy in rw (e, f, h)

  pub path_fault-broken : length path.links ≤ 32 → 1 ≤ path.weight → path.weight ≤ 1_000 → is_chain network group.from group.to path.links ≡ false
      → path_fault network number group place path_number path ≡ Some (BrokenPath number place path_number)
  unfolding path_fault
  path_fault-broken short weighs light broken =
      let e = le-ltb 32 (length path.links) short in let f = le-ltb path.weight 1 weighs in let h = le-ltb 1_000 path.weight light in rw (e, f, h, broken)

  pub path_fault-twice : length path.links ≤ 32 → 1 ≤ path.weight → path.weight ≤ 1_000 → is_chain network group.from group.to path.links ≡ true → repeats path.links ≡ true
      → path_fault network number group place path_number path ≡ Some (RepeatedHop number place path_number)
  unfolding path_fault
  path_fault-twice short weighs light chain twice =
      let e = le-ltb 32 (length path.links) short in let f = le-ltb path.weight 1 weighs in let h = le-ltb 1_000 path.weight light in rw (e, f, h, chain, twice)

  pub path_fault-none : length path.links ≤ 32 → 1 ≤ path.weight → path.weight ≤ 1_000 → is_chain network group.from group.to path.links ≡ true → repeats path.links ≡ false
      → path_fault network number group place path_number path ≡ None
  unfolding path_fault
  path_fault-none short weighs light chain once =
      let e = le-ltb 32 (length path.links) short in let f = le-ltb path.weight 1 weighs in let h = le-ltb 1_000 path.weight light in rw (e, f, h, chain, once)

module _ (network : Network) (number : ℕ) (group : Group) (place : ℕ) where
  pub path_group_fault-empty : (paths : PathGroup) → (length paths == 0) ≡ true → path_group_fault network number group place paths ≡ Some (NoPath number place)
  unfolding path_group_fault
  path_group_fault-empty [] none = refl
  path_group_fault-empty (path ∷ later) none = let e = eqb-true (length (path ∷ later)) 0 none in absurd (omega arith)

  pub path_group_fault-many : (paths : PathGroup) → 16 < length paths → path_group_fault network number group place paths ≡ Some (TooManyPaths number place)
  unfolding path_group_fault
  path_group_fault-many [] many = absurd (omega (arith, many))
  path_group_fault-many (path ∷ later) many = let e = lt-ltb 16 (length (path ∷ later)) many in rw e

  pub path_group_fault-first : (paths : PathGroup) → (length paths == 0) ≡ false → length paths ≤ 16 → path_group_fault network number group place paths ≡ first_fault (path_fault network number group place) 0 paths
  unfolding path_group_fault
  path_group_fault-first [] some few = absurd (cc)
  path_group_fault-first (path ∷ later) some few = let e = le-ltb 16 (length (path ∷ later)) few in rw e

  -- the same, of the paths as the code has them
  pub path_group_fault-read : (specs : List PathSpec) → (length specs == 0) ≡ false → length specs ≤ 16
      → path_group_fault network number group place (map path_of specs) ≡ first_fault (path_fault network number group place) 0 (map path_of specs)
  path_group_fault-read specs some few = path_group_fault-first (map path_of specs) (rw (length-map specs path_of) some) (rw (length-map specs path_of) few)

module _ (network : Network) (number : ℕ) (group : Group) where
  pub group_fault-many : 16 < length group.path_groups → group_fault network number group ≡ Some (TooManyPathGroups number)
  unfolding group_fault
  group_fault-many many = let e = lt-ltb 16 (length group.path_groups) many in rw e

  pub group_fault-empty : length group.path_groups ≤ 16 → (length group.path_groups == 0) ≡ true → group_fault network number group ≡ Some (NoPath number 0)
  unfolding group_fault
  group_fault-empty few none = let e = le-ltb 16 (length group.path_groups) few in rw (e, none)

  pub group_fault-first : length group.path_groups ≤ 16 → (length group.path_groups == 0) ≡ false → group_fault network number group ≡ first_fault (path_group_fault network number group) 0 group.path_groups
  unfolding group_fault
  group_fault-first few some = let e = le-ltb 16 (length group.path_groups) few in rw (e, some)

-- the same, of a group as the code has it
pub group_fault-read : (network : Network) (number : ℕ) (spec : GroupSpec) {count : ℕ} → vec_len spec.places ≡ count → count ≤ 16 → (vec_len spec.places == 0) ≡ false
    → group_fault network number (group_of spec) ≡ first_fault (path_group_fault network number (group_of spec)) 0 (group_of spec).path_groups
group_fault-read network number spec is few some =
    group_fault-first network number (group_of spec) (omega (arith, is, few, spec.places.ok.0, length-map spec.places.items path_group_of))
    (rw (length-map spec.places.items path_group_of, ← spec.places.ok.0) some)
