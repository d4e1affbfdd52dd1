-- The table that the fillings of all tiers make.
use Rattle.std.proofs.Common.{◌≡◌, ℕ, ◌<◌, ◌≤◌, List, [], length, map, reverse, sum, sum_by, get_or, slice_index, slice_index_or, sym, ap, ap₂, ◌∙◌, subst, arith, zero-add, le_trans}
use Rattle.std.proofs.lemmas.List.{get_or-map, length-map, reverse-reverse}
use Rattle.std.proofs.lemmas.List.FromFn.{fill_by_all, length-map-range_with_len, get_or-map-range_with_len}
use Rattle.bwe_specs.specs.declared.limits.TheConstants.{MAX_TOTAL}
use Rattle.bwe_specs.specs.declared.network.Closing.{Closing}
use Rattle.bwe_specs.specs.Bounded.{sum_below}
use Rattle.bwe_specs.specs.Paths.{path_group_at, path_group_count, link_load}
use Rattle.bwe_specs.specs.Filling.{Wan, group_amount, group_stop, closed_by}
use Rattle.bwe_specs.specs.Reports.{numbers}
use Rattle.bwe_specs.specs.Values.{NeverFalls}
use Rattle.bwe_specs.specs.Allocation.{GroupLine, PlaceLine}
use Rattle.bwe_specs.proofs.Bounds.{sum_below-mono, sum_below-term}
use Rattle.bwe_specs.proofs.Sums.{sum_by-numbers}
use Rattle.plain_table.specs.Lines.{line_of_place}
use Rattle.limit_table.proofs.Parts.{line_parts}
use Rattle.plain_table.proofs.Filled.{map-numbers, no_line, no_place, place_parts, sum-numbers}
use Rattle.tiers.specs.Tiered.{amounts_below, filling_of_tier, wan_of_tier, tier_closings, tier_count, tiered_amounts, tiered_line}
use Rattle.tiers.specs.Fillings.{Fillings, AreFilled, HasLine, line_in_tier, row_of, rows_by, stops_by}
use Rattle.tiers.proofs.Tiers.{own-at_most, own-load, below-fits, tier-counted}

module _ (wan : Wan) (tiers : List ℕ) (never : NeverFalls wan) (bound : sum_below (length wan.groups) (λ group. wan.value group wan.top) ≤ MAX_TOTAL)
    (fillings : Fillings) (are : AreFilled wan tiers (tier_count tiers) fillings) (one_each : length tiers ≡ length wan.groups) where
  counted : (group : ℕ) → group < length wan.groups → slice_index tiers group < tier_count tiers
  counted group lt = tier-counted tiers group (omega (arith, one_each))

  module _ (tier group : ℕ) (in_count : tier < tier_count tiers) (lt : group < length wan.groups) where
    closings-at : slice_index_or fillings.closings tier [] ≡ tier_closings wan tiers tier
    closings-at =
        ap (λ lists. slice_index_or lists tier []) are.closings ∙ get_or-map-range_with_len (tier_closings wan tiers) 0 (tier_count tiers) tier tier [] in_count (zero-add tier)

    rows-at : slice_index_or fillings.amounts tier [] ≡ rows_by wan.groups (filling_of_tier wan tiers tier).amounts
    rows-at =
        ap (λ lists. slice_index_or lists tier []) are.amounts
        ∙ get_or-map-range_with_len (λ tier. rows_by wan.groups (filling_of_tier wan tiers tier).amounts) 0 (tier_count tiers) tier tier [] in_count (zero-add tier)

    shares-at : slice_index_or fillings.shares tier [] ≡ stops_by wan tiers tier
    shares-at =
        ap (λ lists. slice_index_or lists tier []) are.shares ∙ get_or-map-range_with_len (stops_by wan tiers) 0 (tier_count tiers) tier tier [] in_count (zero-add tier)

    row-at : row_of fillings tier group ≡ map ((filling_of_tier wan tiers tier).amounts group) (numbers (path_group_count wan.groups group))
    row-at =
        ap (λ rows. slice_index_or rows group []) rows-at
        ∙ get_or-map-range_with_len (λ group. map ((filling_of_tier wan tiers tier).amounts group) (numbers (path_group_count wan.groups group))) 0 (length wan.groups) group group [] lt (zero-add group)

    share-at : slice_index (slice_index_or fillings.shares tier []) group ≡ group_stop (wan_of_tier wan tiers tier) (filling_of_tier wan tiers tier) group
    share-at =
        ap (λ shares. slice_index shares group) shares-at
        ∙ get_or-map-range_with_len (group_stop (wan_of_tier wan tiers tier) (filling_of_tier wan tiers tier)) 0 (length wan.groups) group group 0 lt (zero-add group)

    sum-at : sum (row_of fillings tier group) ≡ group_amount wan (filling_of_tier wan tiers tier).amounts group
    sum-at = ap sum row-at ∙ sum-numbers ((filling_of_tier wan tiers tier).amounts group) (path_group_count wan.groups group)

    has-line : HasLine wan.groups fillings tier group
    has-line = record {
      closings = omega (arith, ap length are.closings, length-map-range_with_len (tier_closings wan tiers) 0 (tier_count tiers));
      amounts = omega (arith, ap length are.amounts, length-map-range_with_len (λ tier. rows_by wan.groups (filling_of_tier wan tiers tier).amounts) 0 (tier_count tiers));
      shares = omega (arith, ap length are.shares, length-map-range_with_len (stops_by wan tiers) 0 (tier_count tiers));
      row = omega (
        arith,
        ap length rows-at,
        length-map-range_with_len (λ group. map ((filling_of_tier wan tiers tier).amounts group) (numbers (path_group_count wan.groups group))) 0 (length wan.groups),
      );
      share = omega (arith, ap length shares-at, length-map-range_with_len (group_stop (wan_of_tier wan tiers tier) (filling_of_tier wan tiers tier)) 0 (length wan.groups));
      places = ap length row-at ∙ length-map-range_with_len ((filling_of_tier wan tiers tier).amounts group) 0 (path_group_count wan.groups group);
      sums = omega (arith, sum-at, own-at_most wan tiers never bound tier group, sum_below-term (length wan.groups) group (λ group. wan.value group wan.top) lt, bound);
    }

  -- each group's line can be read of its own tier
  pub own-has_line : (group : ℕ) → group < length wan.groups → HasLine wan.groups fillings (slice_index tiers group) group
  own-has_line group lt = has-line (slice_index tiers group) group (counted group lt) lt

  line-is : (group : ℕ) → group < length wan.groups → line_in_tier wan.groups fillings (slice_index tiers group) group ≡ tiered_line wan tiers group
  line-is group lt =
      let tier : ℕ = slice_index tiers group in
      let final = filling_of_tier wan tiers tier in
      let count : ℕ = path_group_count wan.groups group in
      let row : List ℕ = row_of fillings tier group in
      let closings : List Closing = slice_index_or fillings.closings tier [] in
      let turned : reverse closings ≡ final.closings = ap reverse (closings-at tier group (counted group lt) lt) ∙ reverse-reverse final.closings in
      let amount : (place : ℕ) → place < count → slice_index row place ≡ final.amounts group place = λ place within.
      ap (λ row. slice_index row place) (row-at tier group (counted group lt) lt)
      ∙ get_or-map-range_with_len (final.amounts group) 0 count place place 0 within (zero-add place) in
      let place_line : ℕ → PlaceLine = λ place. record { amount = final.amounts group place; closed = closed_by (path_group_at wan.groups group place) final.closings } in
      let places : map (line_of_place wan.groups closings group row) (numbers count) ≡ map place_line (numbers count) =
      map-numbers no_place (line_of_place wan.groups closings group row) place_line count
      (λ place within. ap₂ place_parts (amount place within) (ap (closed_by (path_group_at wan.groups group place)) turned)) in
      ap (λ share. line_parts share (sum row) (map (line_of_place wan.groups closings group row) (numbers count))) (share-at tier group (counted group lt) lt)
      ∙ ap₂ (line_parts (group_stop (wan_of_tier wan tiers tier) final group)) (sum-at tier group (counted group lt) lt) places

  module _ (lines : List GroupLine) (lines-are : lines ≡ map (λ group. line_in_tier wan.groups fillings (slice_index tiers group) group) (numbers (length wan.groups))) where
    pub made-lines : lines ≡ map (tiered_line wan tiers) (numbers (length wan.groups))
    made-lines =
        lines-are
        ∙ map-numbers no_line (λ group. line_in_tier wan.groups fillings (slice_index tiers group) group) (tiered_line wan tiers) (length wan.groups) line-is

    pub made-count : length lines ≡ length wan.groups
    made-count = ap length made-lines ∙ length-map-range_with_len (tiered_line wan tiers) 0 (length wan.groups)

    -- the amounts of the lines are what the groups get
    pub made-amounts : map (λ line. line.amount) lines ≡ map (group_amount wan (tiered_amounts wan tiers)) (numbers (length wan.groups))
    made-amounts =
        fill_by_all (group_amount wan (tiered_amounts wan tiers)) (map (λ line. line.amount) lines) (length wan.groups) 0
        (length-map lines (λ line. line.amount) ∙ made-count)
        (λ group lt.
        get_or-map (λ (line : GroupLine). line.amount) lines group no_line 0 (omega (arith, made-count))
        ∙ ap (λ (line : GroupLine). line.amount)
        (ap (λ lines. get_or lines group no_line) made-lines ∙ get_or-map-range_with_len (tiered_line wan tiers) 0 (length wan.groups) group group no_line lt (zero-add group)))

    pub made-within : (group : ℕ) → group < length wan.groups → slice_index (map (λ line. line.amount) lines) group ≤ wan.value group wan.top
    made-within group lt =
        subst (λ n. n ≤ wan.value group wan.top)
        (sym (ap (λ amounts. slice_index amounts group) made-amounts ∙ get_or-map-range_with_len (group_amount wan (tiered_amounts wan tiers)) 0 (length wan.groups) group group 0 lt (zero-add group)))
        (own-at_most wan tiers never bound (slice_index tiers group) group)

    pub made-total : sum_by (λ line. line.amount) lines ≤ MAX_TOTAL
    made-total =
        subst (λ n. n ≤ MAX_TOTAL)
        (sym (ap (sum_by (λ line. line.amount)) made-lines ∙ sum_by-numbers (λ line. line.amount) (tiered_line wan tiers) (length wan.groups)))
        (le_trans
        (sum_below-mono (length wan.groups) (group_amount wan (tiered_amounts wan tiers)) (λ group. wan.value group wan.top)
        (λ group lt. own-at_most wan tiers never bound (slice_index tiers group) group))
        bound)

  -- the loads are those of what all groups get
  pub made-loads : fillings.loads ≡ map (link_load wan.groups (tiered_amounts wan tiers)) (numbers (length wan.capacities))
  made-loads =
      are.loads
      ∙ map-numbers 0 (link_load wan.groups (amounts_below wan tiers (tier_count tiers))) (link_load wan.groups (tiered_amounts wan tiers)) (length wan.capacities)
      (λ link lt. sym (own-load wan tiers never bound (tier_count tiers) link counted))

  -- and no link is over
  pub made-feasible : (link : ℕ) → link < length wan.capacities → slice_index fillings.loads link ≤ slice_index wan.capacities link
  made-feasible link lt =
      omega (
        arith,
        ap (λ loads. slice_index loads link) are.loads
            ∙ get_or-map-range_with_len (link_load wan.groups (amounts_below wan tiers (tier_count tiers))) 0 (length wan.capacities) link link 0 lt (zero-add link),
        below-fits wan tiers never bound (tier_count tiers) link lt,
      )
