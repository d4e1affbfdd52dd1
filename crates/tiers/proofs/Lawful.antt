-- The laws of a table of tiers: each tier's filling obeys them, over what the lower tiers left.
use Rattle.std.proofs.Common.{◌≡◌, ℕ, zero, suc, ◌+◌, ◌-◌, ◌<◌, ◌≤◌, Bool, true, false, ◌&&◌, List, [], ◌∷◌, length, map, flat_map, zip, reverse, slice_index, slice_index_or, None, if◌then◌else◌, refl, sym, ap, ap₂, ◌∙◌, subst, arith, zero-add, add-zero, lt-ltb, eq-eqb}
use Rattle.std.specs.List.{Contains}
use Rattle.std.proofs.lemmas.List.{reverse-reverse}
use Rattle.std.proofs.lemmas.List.FromFn.{length-map-range_with_len, get_or-map-range_with_len}
use Rattle.bwe_specs.specs.declared.limits.TheConstants.{MAX_TOTAL}
use Rattle.bwe_specs.specs.declared.network.Closing.{Closing}
use Rattle.bwe_specs.specs.Bounded.{sum_below}
use Rattle.bwe_specs.specs.Paths.{link_load}
use Rattle.bwe_specs.specs.Filling.{Wan, filling, group_amount, current_path_group_of}
use Rattle.bwe_specs.specs.RightClosings.{amounts_at}
use Rattle.bwe_specs.specs.Reports.{numbers}
use Rattle.bwe_specs.specs.Tree.{Cluster, cluster_limits}
use Rattle.bwe_specs.specs.Values.{NeverFalls}
use Rattle.bwe_specs.specs.Allocation.{GroupLine, group_line}
use Rattle.policy_tree.specs.Trees.{Tree, IsTree, demand_in, value_in}
use Rattle.table_laws.specs.Tasks.{AreAskedFor}
use Rattle.table_laws.specs.Tables.{IsSharedAlike, IsWithoutWaste, line_at}
use Rattle.table_laws.specs.Growing.{StandsIn, GrowsOver, added_load}
use Rattle.table_laws.proofs.Asked.{clusters-asked}
use Rattle.table_laws.proofs.Shared.{shared-alike, line-at, in-groups, some-path_group}
use Rattle.table_laws.proofs.Walks.{numbered}
use Rattle.table_laws.proofs.Wasted.{without-waste, right}
use Rattle.tiers.specs.Tiered.{Tiered, is_in_tier, amounts_below, wan_of_tier, filling_of_tier, tier_closings, tier_count, tiered_amounts, tiered_line, tiered_of}
use Rattle.tiers.specs.TierLaws.{IsShared, IsUnwasted, closings_in}
use Rattle.tiers.proofs.Tiers.{tier-counted, free-at, length-free, tier-never, own-at_most, load-more, below-fits, own-load}

module _ (wan : Wan) (tiers : List ℕ) (never : NeverFalls wan) (starts : (group : ℕ) → wan.value group 0 ≡ 0)
    (bound : sum_below (length wan.groups) (λ group. wan.value group wan.top) ≤ MAX_TOTAL)
    (one_each : length tiers ≡ length wan.groups) (clusters : List Cluster) (demand : ℕ → ℕ) (prefix : ℕ) where
  abbrev table : Tiered
  table = tiered_of wan clusters demand tiers prefix

  abbrev W : ℕ → Wan
  W tier = wan_of_tier wan tiers tier

  W-never : (tier : ℕ) → NeverFalls (W tier)
  W-never tier = tier-never wan tiers never tier (amounts_below wan tiers tier)

  W-starts : (tier group : ℕ) → (W tier).value group 0 ≡ 0
  W-starts tier group = go (is_in_tier tiers tier group) (starts group) where
    go : (b : Bool) → wan.value group 0 ≡ 0 → (if b then wan.value group 0 else 0) ≡ 0
    go true none = none
    go false none = refl

  -- in its own tier a group has its value
  own-value : (group share : ℕ) → group < length wan.groups → (W (slice_index tiers group)).value group share ≡ wan.value group share
  own-value group share lt =
      ap (λ b. if b then wan.value group share else 0)
      (ap₂ (λ a b. a && b) (lt-ltb group (length tiers) (omega (arith, one_each, lt))) (eq-eqb (slice_index tiers group) (slice_index tiers group) refl))

  -- the closings of a tier's filling
  closings-are : (tier : ℕ) → tier < tier_count tiers → closings_in table tier ≡ (filling (W tier)).closings
  unfolding filling_of_tier
  closings-are tier lt =
      ap reverse (get_or-map-range_with_len (tier_closings wan tiers) 0 (tier_count tiers) tier tier [] lt (zero-add tier)) ∙ reverse-reverse (filling (W tier)).closings

  line-is : (group : ℕ) → group < length wan.groups → line_at table.groups group ≡ group_line (W (slice_index tiers group)) (filling (W (slice_index tiers group))) group
  unfolding filling_of_tier
  line-is group lt = get_or-map-range_with_len (tiered_line wan tiers) 0 (length wan.groups) group group _ lt (zero-add group)

  abbrev lines_of_tier : ℕ → List GroupLine
  lines_of_tier tier = map (group_line (W tier) (filling (W tier))) (numbers (length wan.groups))

  -- the line of a group in the table is that in the filling of its own tier
  own-line : (group : ℕ) (lt : group < length wan.groups) → line_at table.groups group ≡ slice_index_or (lines_of_tier (slice_index tiers group)) group (record { share = 0; amount = 0; places = [] })
  own-line group lt = line-is group lt ∙ sym (line-at (W (slice_index tiers group)) (filling (W (slice_index tiers group))) group lt)

  alike : (tier : ℕ) → IsSharedAlike (W tier) (lines_of_tier tier) (filling (W tier)).closings
  alike tier = shared-alike (W tier) (W-never tier) (W-starts tier)

  spare : (tier : ℕ) → IsWithoutWaste (W tier) (lines_of_tier tier) (map (link_load wan.groups (filling (W tier)).amounts) (numbers (length (W tier).capacities))) (filling (W tier)).closings
  spare tier = without-waste (W tier) (W-never tier) (W-starts tier)

  stands-there : (tier : ℕ) → tier < tier_count tiers → (closing : Closing) (earlier : List Closing) → StandsIn (closings_in table tier) closing earlier → StandsIn (filling (W tier)).closings closing earlier
  stands-there tier lt closing earlier stands = record { later = stands.later; stands = sym (closings-are tier lt) ∙ stands.stands }

  grows-in : (tier group : ℕ) (earlier : List Closing) (link : ℕ) → GrowsOver (W tier) earlier group link → group < length wan.groups
  grows-in tier group earlier link grows = in-groups (W tier) group (some-path_group (W tier) earlier group grows.place grows.current)

  at-closing : (tier : ℕ) → tier < tier_count tiers → (closing : Closing) (earlier : List Closing) → StandsIn (closings_in table tier) closing earlier
      → (group : ℕ) → slice_index tiers group ≡ tier → GrowsOver (W tier) earlier group closing.link
      → group_amount wan (amounts_at (W tier) earlier closing.share) group ≡ wan.value group closing.share
  at-closing tier lt closing earlier stands group own grows =
      (alike tier).at_closing closing earlier (stands-there tier lt closing earlier stands) group grows
      ∙ subst (λ tier. (W tier).value group closing.share ≡ wan.value group closing.share) own (own-value group closing.share (grows-in tier group earlier closing.link grows))

  stopped-at : (tier : ℕ) → tier < tier_count tiers → (closing : Closing) (earlier : List Closing) → StandsIn (closings_in table tier) closing earlier
      → (group : ℕ) → slice_index tiers group ≡ tier → GrowsOver (W tier) earlier group closing.link
      → current_path_group_of wan (closing ∷ earlier) group ≡ None → (line_at table.groups group).share ≡ closing.share
  stopped-at tier lt closing earlier stands group own grows none =
      ap (λ line. line.share) (own-line group (grows-in tier group earlier closing.link grows))
      ∙ ap (λ tier. (slice_index_or (lines_of_tier tier) group (record { share = 0; amount = 0; places = [] })).share) own
      ∙ (alike tier).stopped closing earlier (stands-there tier lt closing earlier stands) group grows none

  pub tiers-shared : IsShared wan tiers table
  tiers-shared = record {
    at_stop = λ group some.
        let lt = in-groups wan group some in
        let tier : ℕ = slice_index tiers group in
        ap (λ line. line.amount) (own-line group lt) ∙ (alike tier).at_stop group some
        ∙ own-value group (slice_index_or (lines_of_tier tier) group (record { share = 0; amount = 0; places = [] })).share lt
        ∙ sym (ap (λ line. wan.value group line.share) (own-line group lt));
    at_closing = at-closing;
    stopped = stopped-at;
  }

  -- the loads of more tiers are not less
  load-grows : (tier more link : ℕ) → link_load wan.groups (amounts_below wan tiers tier) link ≤ link_load wan.groups (amounts_below wan tiers (tier + more)) link
  load-grows tier zero link = ap-le (ap (λ tier. link_load wan.groups (amounts_below wan tiers tier) link) (sym (add-zero tier))) where
    ap-le : link_load wan.groups (amounts_below wan tiers tier) link ≡ link_load wan.groups (amounts_below wan tiers (tier + 0)) link → link_load wan.groups (amounts_below wan tiers tier) link ≤ link_load wan.groups (amounts_below wan tiers (tier + 0)) link
    ap-le same = omega (arith, same)
  load-grows tier (suc more) link =
      let next : tier + more + 1 ≡ tier + suc more = omega arith in
      omega (
        arith,
        load-grows tier more link,
        load-more wan tiers never bound (tier + more) link,
        ap (λ tier. link_load wan.groups (amounts_below wan tiers tier) link) next,
      )

  -- what a tier and those below it put on a link, all tiers put there too
  tier-load : (tier link : ℕ) → tier < tier_count tiers → link_load wan.groups (amounts_below wan tiers tier) link + link_load wan.groups (filling (W tier)).amounts link ≤ link_load wan.groups (tiered_amounts wan tiers) link
  unfolding filling_of_tier
  tier-load tier link lt =
      let rest : tier + 1 + (tier_count tiers - (tier + 1)) ≡ tier_count tiers = omega (arith, lt) in
      omega (
        arith,
        load-more wan tiers never bound tier link,
        load-grows (tier + 1) (tier_count tiers - (tier + 1)) link,
        ap (λ tier. link_load wan.groups (amounts_below wan tiers tier) link) rest,
        own-load wan tiers never bound (tier_count tiers) link (λ group gl. tier-counted tiers group (omega (arith, one_each, gl))),
      )

  little-left : (tier : ℕ) → tier < tier_count tiers → (closing : Closing) (earlier : List Closing) → StandsIn (closings_in table tier) closing earlier
      → slice_index wan.capacities closing.link < slice_index table.loads closing.link + sum_below (length wan.groups) (added_load (W tier) earlier closing.share closing.link)
  little-left tier lt closing earlier stands =
      let link : ℕ = closing.link in
      let there = stands-there tier lt closing earlier stands in
      let exists : link < length wan.capacities = omega (arith, (right (W tier) (W-never tier) there.later closing earlier there.stands).1.link_exists, length-free wan.groups wan.capacities (amounts_below wan tiers tier)) in
      let tier_load : slice_index (map (link_load wan.groups (filling (W tier)).amounts) (numbers (length (W tier).capacities))) link ≡ link_load wan.groups (filling (W tier)).amounts link =
      get_or-map-range_with_len (link_load wan.groups (filling (W tier)).amounts) 0 (length (W tier).capacities) link link 0 (omega (arith, exists, length-free wan.groups wan.capacities (amounts_below wan tiers tier))) (zero-add link) in
      let load : slice_index table.loads link ≡ link_load wan.groups (tiered_amounts wan tiers) link =
      get_or-map-range_with_len (link_load wan.groups (tiered_amounts wan tiers)) 0 (length wan.capacities) link link 0 exists (zero-add link) in
      omega (
        arith,
        (spare tier).little_left closing earlier there,
        tier_load,
        load,
        tier-load tier link lt,
        free-at wan.groups wan.capacities (amounts_below wan tiers tier) link exists,
        below-fits wan tiers never bound tier link exists,
      )

  pub tiers-unwasted : IsUnwasted wan tiers table
  tiers-unwasted = record {
    held = λ group place within less.
        let lt = in-groups wan group (omega (arith, within)) in
        let tier : ℕ = slice_index tiers group in
        let counted : tier < tier_count tiers = tier-counted tiers group (omega (arith, one_each, lt)) in
        let few = ap (λ line. line.amount) (own-line group lt) in
        let by = (spare tier).held group place within (omega (arith, less, few, own-value group wan.top lt)) in
        (by.0, subst (λ closings. Contains closings by.0) (sym (closings-are tier counted)) by.1, by.2);
    little_left = little-left;
  }

-- the limits of a table of tiers are at most what the tasks ask for
pub tiers-asked : (tree : Tree) (wan : Wan) (tiers : List ℕ) → IsTree tree → ((group : ℕ) → wan.value group wan.top ≡ value_in tree group tree.top)
    → NeverFalls wan → sum_below (length wan.groups) (λ group. wan.value group wan.top) ≤ MAX_TOTAL
    → AreAskedFor tree.top (demand_in tree) tree.clusters
    (flat_map (λ given. cluster_limits tree.top (demand_in tree) given.0 given.1) (zip tree.clusters (map (group_amount wan (tiered_amounts wan tiers)) (numbers (length tree.clusters)))))
tiers-asked tree wan tiers is values never bound =
    let amount : ℕ → ℕ = group_amount wan (tiered_amounts wan tiers) in
    clusters-asked tree.top (demand_in tree) tree.clusters (map amount (numbers (length tree.clusters))) is.functions (numbered tree.clusters (length tree.demands) is.numbers)
    (length-map-range_with_len amount 0 (length tree.clusters))
    (λ group lt.
    omega (arith, get_or-map-range_with_len amount 0 (length tree.clusters) group group 0 lt (zero-add group), own-at_most wan tiers never bound (slice_index tiers group) group, values group))
