-- What a filling keeps, read row by row.
use Rattle.std.proofs.Common.{◌≡◌, ℕ, ◌<◌, ◌≤◌, List, [], length, map, reverse, sum, get_or, slice_index, slice_index_or, Option, None, le_refl, ap₂, sym, ap, ◌∙◌, subst, arith, zero-add, le_trans}
use Rattle.std.proofs.lemmas.List.FromFn.{fill_by_all, length-map-range_with_len, get_or-map-range_with_len}
use Rattle.std.proofs.lemmas.List.{length-map, get_or-map, reverse-reverse}
use Rattle.bwe_specs.specs.declared.limits.TheConstants.{MAX_TOTAL}
use Rattle.bwe_specs.specs.Bounded.{sum_below}
use Rattle.bwe_specs.specs.Paths.{path_group_at, path_group_count}
use Rattle.bwe_specs.specs.Filling.{Wan, filling, group_stop, group_amount, closed_by}
use Rattle.bwe_specs.specs.Reports.{numbers}
use Rattle.bwe_specs.specs.Values.{NeverFalls}
use Rattle.bwe_specs.specs.Allocation.{GroupLine, PlaceLine, group_line}
use Rattle.bwe_specs.proofs.Bounds.{sum_below-term}
use Rattle.bwe_specs.proofs.Certificates.{filling-right, filling-amounts, last_share-le}
use Rattle.bwe_specs.proofs.Totals.{group_amount-le, total, total-le}
use Rattle.bwe_specs.proofs.Sums.{sum_by-numbers}
use Rattle.bwe_specs.specs.Lists.{lists_of}
use Rattle.mpfa_fill.specs.declared.filling.Filling.{Filling}
use Rattle.mpfa_fill.specs.Filling.{IsFilling}
use Rattle.mpfa_fill.specs.Rows.{amount_at, AreShaped}
use Rattle.plain_table.specs.Lines.{HasRows, line_in, line_of_place}
use Rattle.limit_table.proofs.Parts.{line_parts}

abbrev pub place_parts : ℕ → Option ℕ → PlaceLine
place_parts amount closed = record { amount = amount; closed = closed }

-- lists by number that agree at each number
pub map-numbers : {X : Type 0} (d : X) (f g : ℕ → X) (n : ℕ) → ((i : ℕ) → i < n → f i ≡ g i) → map f (numbers n) ≡ map g (numbers n)
map-numbers d f g n each =
    fill_by_all g (map f (numbers n)) n d (length-map-range_with_len f 0 n)
    (λ k lt. get_or-map-range_with_len f 0 n k k d lt (zero-add k) ∙ each k lt)

pub sum-numbers : (f : ℕ → ℕ) (n : ℕ) → sum (map f (numbers n)) ≡ sum_below n f
sum-numbers f n = sum_by-numbers (λ k. k) f n

pub no_line : GroupLine
no_line = record { share = 0; amount = 0; places = [] }

pub no_place : PlaceLine
no_place = record { amount = 0; closed = None }

module _ (wan : Wan) (never : NeverFalls wan) (bound : sum_below (length wan.groups) (λ group. wan.value group wan.top) ≤ MAX_TOTAL) where
  -- all groups get at most what they may have at the top
  pub amounts-total : total wan (filling wan).amounts ≤ MAX_TOTAL
  amounts-total =
      let right = filling-right wan never in
      let closings = (filling wan).closings in
      subst (λ amounts. total wan amounts ≤ MAX_TOTAL) (sym (filling-amounts wan never))
      (le_trans (total-le wan never closings wan.top right.0 (last_share-le wan closings right.0) (le_refl wan.top)) bound)

  -- a group gets at most what it may have at the top
  pub amount-at_most : (group : ℕ) → group_amount wan (filling wan).amounts group ≤ wan.value group wan.top
  amount-at_most group =
      let right = filling-right wan never in
      let closings = (filling wan).closings in
      subst (λ amounts. group_amount wan amounts group ≤ wan.value group wan.top) (sym (filling-amounts wan never))
      (group_amount-le wan never group closings wan.top right.0 (last_share-le wan closings right.0) (le_refl wan.top))

-- the amounts of the rows are those of the groups
pub amounts-of_lines : (wan : Wan) (count : ℕ) → length wan.groups ≡ count
    → map (λ line. line.amount) (map (group_line wan (filling wan)) (numbers (length wan.groups))) ≡ map (group_amount wan (filling wan).amounts) (numbers count)
amounts-of_lines wan count all =
    let lines : List GroupLine = map (group_line wan (filling wan)) (numbers (length wan.groups)) in
    fill_by_all (group_amount wan (filling wan).amounts) (map (λ line. line.amount) lines) count 0
    (length-map lines (λ line. line.amount) ∙ length-map-range_with_len (group_line wan (filling wan)) 0 (length wan.groups) ∙ all)
    (λ k lt. at k (omega (arith, all)))
  where
    at : (k : ℕ) → k < length wan.groups → get_or (map (λ line. line.amount) (map (group_line wan (filling wan)) (numbers (length wan.groups)))) k 0 ≡ group_amount wan (filling wan).amounts k
    at k lt =
        get_or-map (λ line. line.amount) (map (group_line wan (filling wan)) (numbers (length wan.groups))) k (group_line wan (filling wan) k) 0
        (omega (arith, length-map-range_with_len (group_line wan (filling wan)) 0 (length wan.groups)))
        ∙ ap (λ line. line.amount) (get_or-map-range_with_len (group_line wan (filling wan)) 0 (length wan.groups) k k (group_line wan (filling wan) k) lt (zero-add k))

module _ (wan : Wan) (filled : Filling) (is : IsFilling wan filled) where
  abbrev rows : List (List ℕ)
  rows = lists_of filled.amounts.items

  row-is : (group : ℕ) → group < length wan.groups → slice_index_or rows group [] ≡ map ((filling wan).amounts group) (numbers (path_group_count wan.groups group))
  row-is group lt =
      ap (λ rows. slice_index_or rows group []) is.amounts
      ∙ get_or-map-range_with_len (λ group. map ((filling wan).amounts group) (numbers (path_group_count wan.groups group))) 0 (length wan.groups) group group [] lt (zero-add group)

  shaped : AreShaped wan.groups filled.amounts.items
  shaped = record {
    each_group = ap length is.amounts ∙ length-map-range_with_len _ 0 (length wan.groups);
    each_place = λ group lt. ap length (row-is group lt) ∙ length-map-range_with_len ((filling wan).amounts group) 0 (path_group_count wan.groups group);
  }

  amount-is : (group place : ℕ) → group < length wan.groups → place < path_group_count wan.groups group → amount_at rows group place ≡ (filling wan).amounts group place
  amount-is group place lt within =
      ap (λ row. slice_index row place) (row-is group lt)
      ∙ get_or-map-range_with_len ((filling wan).amounts group) 0 (path_group_count wan.groups group) place place 0 within (zero-add place)

  row-sum : (group : ℕ) → group < length wan.groups → sum (slice_index_or rows group []) ≡ group_amount wan (filling wan).amounts group
  row-sum group lt = ap sum (row-is group lt) ∙ sum-numbers ((filling wan).amounts group) (path_group_count wan.groups group)

  line-is : (group : ℕ) → group < length wan.groups → line_in wan.groups filled group ≡ group_line wan (filling wan) group
  line-is group lt =
      let count = path_group_count wan.groups group in
      let row : List ℕ = slice_index_or rows group [] in
      let share : slice_index filled.shares.items group ≡ group_stop wan (filling wan) group =
      ap (λ shares. slice_index shares group) is.shares ∙ get_or-map-range_with_len (group_stop wan (filling wan)) 0 (length wan.groups) group group 0 lt (zero-add group) in
      let closings : reverse filled.closings.items ≡ (filling wan).closings = ap reverse is.closings ∙ reverse-reverse (filling wan).closings in
      let place_line : ℕ → PlaceLine = λ place. record { amount = (filling wan).amounts group place; closed = closed_by (path_group_at wan.groups group place) (filling wan).closings } in
      let places : map (line_of_place wan.groups filled.closings.items group row) (numbers count) ≡ map place_line (numbers count) =
      map-numbers no_place (line_of_place wan.groups filled.closings.items group row) place_line count
      (λ place within. ap₂ place_parts (amount-is group place lt within) (ap (closed_by (path_group_at wan.groups group place)) closings)) in
      ap (λ share. line_parts share (sum row) (map (line_of_place wan.groups filled.closings.items group row) (numbers count))) share
      ∙ ap₂ (line_parts (group_stop wan (filling wan) group)) (row-sum group lt) places

  -- the rows of the groups of the filling
  pub lines-are : map (line_in wan.groups filled) (numbers (length wan.groups)) ≡ map (group_line wan (filling wan)) (numbers (length wan.groups))
  lines-are = map-numbers no_line (line_in wan.groups filled) (group_line wan (filling wan)) (length wan.groups) line-is

  -- its rows can be summed
  pub has_rows : NeverFalls wan → sum_below (length wan.groups) (λ group. wan.value group wan.top) ≤ MAX_TOTAL → HasRows wan.groups filled
  has_rows never bound = record {
    rows = shaped;
    shares = ap length is.shares ∙ length-map-range_with_len _ 0 (length wan.groups);
    sums = λ group lt.
        omega (arith, row-sum group lt, amount-at_most wan never bound group, sum_below-term (length wan.groups) group (λ group. wan.value group wan.top) lt, bound);
  }
