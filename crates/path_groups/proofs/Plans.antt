-- A plan of sound groups.
use Rattle.std.proofs.Common.{◌≡◌, ℕ, ◌<◌, ◌≤◌, true, List, [], ◌∷◌, ◌++◌, length, map, refl, sym, ◌∙◌, ap, subst, arith, suc, get_or, inl, inr, append_assoc}
use Rattle.std.specs.Prelude.{All}
use Rattle.std.specs.Str.{bytes_eq}
use Rattle.std.proofs.Math.ListN.{get_or-eq_default}
use Rattle.std.proofs.lemmas.Bool.{and_parts, cases_lt}
use Rattle.std.proofs.lemmas.List.{length-map, map_push}
use Rattle.bwe_specs.specs.Paths.{PathGroup, path_group_at, path_group_count, weight_of}
use Rattle.wan_topology.specs.Network.{Network, sites_of}
use Rattle.bwe_specs.specs.declared.given.GroupSpec.{GroupSpec}
use Rattle.bwe_specs.specs.Given.{Group, path_groups_of, AreInRange, path_group_of, group_of}
use Rattle.path_groups.specs.Faults.{leads, is_chain}
use Rattle.path_groups.specs.Plan.{IsPlan, is_linked, IsPathOf, IsBuiltOn}
use Rattle.path_groups.proofs.Lists.{get_map}
use Rattle.path_groups.proofs.Sound.{IsSoundPathGroup, IsSoundGroup, weight_of-sound}

no_group : Group
no_group = record { from = []; to = []; path_groups = [] }

-- the path groups of a group, and one of them
path_groups-at : (groups : List Group) (group : ℕ) → group < length groups → get_or (path_groups_of groups) group [] ≡ (get_or groups group no_group).path_groups
path_groups-at groups group lt = get_map (λ g. g.path_groups) groups group no_group [] lt

light : (network : Network) (group : Group) (paths : PathGroup) → IsSoundPathGroup network group paths → (1 ≤ weight_of paths) × (weight_of paths ≤ 16_000)
light network group paths is = let weights = weight_of-sound network group paths is.each_path in (omega (arith, weights.0, is.some_path), omega (arith, weights.1, is.few_paths))

module _ (network : Network) (groups : List Group) (sound : All (IsSoundGroup network) groups) where
  sound-at : (group : ℕ) → group < length groups → IsSoundGroup network (get_or groups group no_group)
  sound-at group lt = sound group no_group lt

  path_group-sound-at : (group place : ℕ) → group < length groups → place < path_group_count (path_groups_of groups) group → IsSoundPathGroup network (get_or groups group no_group) (path_group_at (path_groups_of groups) group place)
  path_group-sound-at group place lt within =
      let row = path_groups-at groups group lt in
      subst (IsSoundPathGroup network (get_or groups group no_group)) (ap (λ path_groups. get_or path_groups place []) (sym row))
      ((sound-at group lt).each_place place [] (subst (λ path_groups. place < length path_groups) row within))

  pub IsPlan-sound : length groups ≤ 65_536 → IsPlan (path_groups_of groups)
  IsPlan-sound few = record {
    few_groups = omega (arith, few, length-map groups (λ g. g.path_groups));
    few_places = λ group lt. subst (λ path_groups. length path_groups ≤ 16) (sym (path_groups-at groups group (inside group lt))) (sound-at group (inside group lt)).few_places;
    some_place = λ group lt. subst (λ path_groups. 1 ≤ length path_groups) (sym (path_groups-at groups group (inside group lt))) (sound-at group (inside group lt)).some_place;
    weighs = λ group place lt within. (light network (get_or groups group no_group) (path_group_at (path_groups_of groups) group place) (path_group-sound-at group place (inside group lt) within)).0;
    is_light = λ group place lt within. (light network (get_or groups group no_group) (path_group_at (path_groups_of groups) group place) (path_group-sound-at group place (inside group lt) within)).1;
  } where
    inside : (group : ℕ) → group < length (path_groups_of groups) → group < length groups
    inside group lt = omega (arith, lt, length-map groups (λ g. g.path_groups))

  leads-linked : (from to : List ℕ) (links : List ℕ) → leads network from to links ≡ true → is_linked network links ≡ true
  unfolding leads
  leads-linked from to [] e = refl
  leads-linked from to (link ∷ []) e = refl
  leads-linked from to (link ∷ next ∷ later) e =
      let rest = (and_parts (bytes_eq (sites_of network link).from from) (leads network (sites_of network link).to to (next ∷ later)) e).1 in
      let here = (and_parts (bytes_eq (sites_of network next).from (sites_of network link).to) (leads network (sites_of network next).to to later) rest).0 in
      let linked = leads-linked (sites_of network link).to to (next ∷ later) rest in
      rw (here, linked)

  chain-linked : (from to : List ℕ) (links : List ℕ) → is_chain network from to links ≡ true → is_linked network links ≡ true
  chain-linked from to [] e = refl
  chain-linked from to (link ∷ later) e = leads-linked from to (link ∷ later) e

  pub IsBuiltOn-sound : AreInRange (length network.capacities) groups → IsBuiltOn network (path_groups_of groups)
  IsBuiltOn-sound in_range = record { paths = each } where
    each : (group place : ℕ) → All (IsPathOf network) (path_group_at (path_groups_of groups) group place)
    each group place k d lt = elim (cases_lt group (length groups)) [
      | inl here ↦ elim (cases_lt place (path_group_count (path_groups_of groups) group)) [
        | inl within ↦
            let row = path_groups-at groups group here in
            let ranges : All (λ path. All (λ link. link < length network.capacities) path.links) (path_group_at (path_groups_of groups) group place) =
            subst (All (λ path. All (λ link. link < length network.capacities) path.links)) (ap (λ path_groups. get_or path_groups place []) (sym row))
            (in_range group no_group here place [] (subst (λ path_groups. place < length path_groups) row within)) in
            let path = (path_group-sound-at group place here within).each_path k d lt in
            record {
              in_range = ranges k d lt;
              linked = chain-linked (get_or groups group no_group).from (get_or groups group no_group).to (get_or (path_group_at (path_groups_of groups) group place) k d).links path.chain;
            }
        | inr past ↦ absurd (let none : path_group_at (path_groups_of groups) group place ≡ [] = get_or-eq_default (get_or (path_groups_of groups) group []) [] past in omega (arith, lt, ap length none))
      ]
      | inr past ↦
          absurd (let none : get_or (path_groups_of groups) group [] ≡ [] = get_or-eq_default (path_groups_of groups) [] (omega (arith, past, length-map groups (λ g. g.path_groups))) in
          let empty : path_group_at (path_groups_of groups) group place ≡ [] = ap (λ path_groups. get_or path_groups place []) none ∙ refl in
          omega (arith, lt, ap length empty))
    ]

-- the path groups of a sound group are light
pub light-given : (network : Network) (spec : GroupSpec) → IsSoundGroup network (group_of spec) → All (λ paths. weight_of (path_group_of paths) ≤ 16_000) spec.places.items
light-given network spec sound k d lt =
    let within : k < length (map path_group_of spec.places.items) = omega (arith, lt, length-map spec.places.items path_group_of) in
    let is = subst (IsSoundPathGroup network (group_of spec)) (get_map path_group_of spec.places.items k d (path_group_of d) lt) (sound.each_place k (path_group_of d) within) in
    (light network (group_of spec) (path_group_of (get_or spec.places.items k d)) is).1

-- ---- one item more

pub All-first : {A : Type 0} (P : A → Type 0) (item : A) (later : List A) → All P (item ∷ later) → P item
All-first P item later all = all 0 item (omega arith)

pub All-later : {A : Type 0} (P : A → Type 0) (item : A) (later : List A) → All P (item ∷ later) → All P later
All-later P item later all k d lt = all (suc k) d (omega arith)

-- what is held, and one item more, before what is to come
pub together-push : {A B C : Type 0} (held : A → C) (given : B → C) (done : List A) (next : A) (item : B) (later all : List B) → held next ≡ given item
    → map held done ++ map given (item ∷ later) ≡ map given all → map held (done ++ next ∷ []) ++ map given later ≡ map given all
together-push held given done next item later all same is =
    ap (λ front. front ++ map given later) (map_push held done next) ∙ append_assoc (map held done) (held next ∷ []) (map given later)
    ∙ ap (λ first. map held done ++ first ∷ map given later) same ∙ is
