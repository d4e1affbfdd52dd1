-- A plan as it is held, item by item.
use Rattle.std.proofs.Common.{◌≡◌, ℕ, ◌<◌, ◌≤◌, List, [], length, sym, ◌∙◌, ap, subst, arith, Vec, Global, get_or}
use Rattle.std.specs.Prelude.{All}
use Rattle.std.proofs.lemmas.List.{length-map}
use Rattle.bwe_specs.specs.Paths.{PathGroups, path_group_at, path_group_count, weight_of}
use Rattle.path_groups.specs.declared.plan.PathGroup.{PathGroup}
use Rattle.path_groups.specs.Plan.{IsPlan}
use Rattle.path_groups.specs.Parts.{IsPart}
use Rattle.path_groups.specs.Held.{path_group_held, path_groups_held, plan_held, HoldsParts, AllHoldParts}
use Rattle.path_groups.proofs.Lists.{get_map-item}
use Rattle.path_groups.proofs.Parts.{AreParts-each}

module _ (inside : List (Vec PathGroup Global)) (groups : List PathGroups) (is : plan_held inside ≡ groups) where
  -- the path groups of a group
  pub row_held : (group : ℕ) (row : Vec PathGroup Global) → group < length groups → row ≡ get_or inside group row → get_or groups group [] ≡ path_groups_held row
  row_held group row lt e =
      let within : group < length inside = omega (arith, length-map inside path_groups_held, ap length is) in
      ap (λ all. get_or all group []) (sym is) ∙ get_map-item path_groups_held inside group row [] within e

  pub length_row : (group : ℕ) (row : Vec PathGroup Global) → group < length groups → row ≡ get_or inside group row → path_group_count groups group ≡ length row.items
  length_row group row lt e = ap length (row_held group row lt e) ∙ length-map row.items path_group_held

  -- the path group at a place
  pub path_group_at-held : (group place : ℕ) (row : Vec PathGroup Global) (held : PathGroup) → group < length groups → row ≡ get_or inside group row → place < path_group_count groups group → held ≡ get_or row.items place held
      → path_group_at groups group place ≡ path_group_held held
  path_group_at-held group place row held lt e within f =
      let below : place < length row.items = omega (arith, length_row group row lt e) in
      ap (λ path_groups. get_or path_groups place []) (row_held group row lt e) ∙ get_map-item path_group_held row.items place held [] below f

  -- its parts
  pub AreParts-held : IsPlan groups → AllHoldParts inside → (group place : ℕ) (row : Vec PathGroup Global) (held : PathGroup) → group < length groups → row ≡ get_or inside group row → place < path_group_count groups group → held ≡ get_or row.items place held
      → All IsPart held.parts.items
  AreParts-held plan all group place row held lt e within f =
      let inside_row : group < length inside = omega (arith, length-map inside path_groups_held, ap length is) in
      let below : place < length row.items = omega (arith, length_row group row lt e) in
      let row_holds : All HoldsParts row.items = subst (λ r. All HoldsParts r.items) (sym e) (all group row inside_row) in
      let holds : HoldsParts held = subst HoldsParts (sym f) (row_holds place held below) in
      let at = path_group_at-held group place row held lt e within f in
      AreParts-each (path_group_held held) held.parts.items
      (subst (λ path_group. 1 ≤ weight_of path_group) at (plan.weighs group place lt within)) (subst (λ path_group. weight_of path_group ≤ 16_000) at (plan.is_light group place lt within)) holds
