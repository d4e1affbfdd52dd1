-- The filling does not depend on the order of the groups.
use Rattle.std.proofs.Common.{◌≡◌, ℕ, zero, suc, ◌+◌, ◌-◌, ◌<◌, Bool, true, false, List, [], length, map, slice_index_or, Option, Some, None, if◌then◌else◌, ◌==◌, refl, sym, ◌∙◌, ap, ap₂, subst}
use mathlib.Core.Path.{fun_ext}
use Rattle.bwe_specs.specs.declared.network.Closing.{Closing}
use Rattle.bwe_specs.specs.Bounded.{sum_below}
use Rattle.bwe_specs.specs.Paths.{PathGroups, load_on, link_load, is_over, lowest_over, current_path_group}
use Rattle.bwe_specs.specs.Filling.{Wan, State, closed_links, is_at, growth, next_amounts, first_state, step_by, filling_step, after_steps, filling, stop_share, closed_by}
use Rattle.bwe_specs.specs.Reports.{numbers}
use Rattle.bwe_specs.specs.Allocation.{GroupLine, group_line}
use Rattle.bwe_specs.proofs.Bounds.{sum_below-same, lowest-same}
use Rattle.table_laws.specs.Order.{IsOrder}
use Rattle.table_laws.proofs.Sums.{sum-order}

abbrev moment : ℕ → List Closing → (ℕ → ℕ → ℕ) → State
moment share closings amounts = record { share = share; closings = closings; amounts = amounts }

-- the load that one group puts on a link
abbrev row_load : ℕ → PathGroups → (ℕ → ℕ) → ℕ
row_load link path_groups amounts = sum_below (length path_groups) (λ place. load_on (slice_index_or path_groups place []) link (amounts place))

-- what one group grows, by its path groups and its value at both shares
abbrev row_growth : List Closing → PathGroups → ℕ → ℕ → ℕ → ℕ
row_growth closings path_groups from to place = if is_at (current_path_group path_groups (closed_links closings)) place then to - from else 0

-- the line of a group, by its path groups and its amounts
abbrev row_line : ℕ → List Closing → PathGroups → (ℕ → ℕ) → GroupLine
row_line top closings path_groups amounts = record {
  share = stop_share path_groups closings top;
  amount = sum_below (length path_groups) amounts;
  places = map (λ place. record { amount = amounts place; closed = closed_by (slice_index_or path_groups place []) closings }) (numbers (length path_groups));
}

-- what is filled, and the same with its groups in another order
module _ (wan : Wan) (groups : List PathGroups) (value : ℕ → ℕ → ℕ) (group_at place_of : ℕ → ℕ) (count : length groups ≡ length wan.groups) (order : IsOrder (length wan.groups) group_at place_of)
    (same_groups : (place : ℕ) → place < length wan.groups → slice_index_or groups place [] ≡ slice_index_or wan.groups (group_at place) [])
    (same_values : (place : ℕ) → place < length wan.groups → (share : ℕ) → value place share ≡ wan.value (group_at place) share) where
  abbrev pub other : Wan
  other = record { top = wan.top; value = value; groups = groups; capacities = wan.capacities }

  abbrev pub AreMoved : (ℕ → ℕ → ℕ) → (ℕ → ℕ → ℕ) → Type 0
  AreMoved amounts moved = (place : ℕ) → place < length wan.groups → moved place ≡ amounts (group_at place)

  pub loads-same : (amounts moved : ℕ → ℕ → ℕ) → AreMoved amounts moved → (link : ℕ) → link_load groups moved link ≡ link_load wan.groups amounts link
  unfolding link_load
  loads-same amounts moved are link =
      ap (λ n. sum_below n (λ place. row_load link (slice_index_or groups place []) (moved place))) count
      ∙ sum_below-same (length wan.groups) _ (λ place. row_load link (slice_index_or wan.groups (group_at place) []) (amounts (group_at place)))
      (λ place lt. ap₂ (row_load link) (same_groups place lt) (are place lt))
      ∙ sum-order (length wan.groups) group_at place_of (λ group. row_load link (slice_index_or wan.groups group []) (amounts group)) order

  lowest-over-same : (amounts moved : ℕ → ℕ → ℕ) → AreMoved amounts moved → lowest_over groups wan.capacities moved ≡ lowest_over wan.groups wan.capacities amounts
  unfolding lowest_over
  lowest-over-same amounts moved are =
      lowest-same (length wan.capacities) (is_over groups wan.capacities moved) (is_over wan.groups wan.capacities amounts)
      (λ link lt. rw (loads-same amounts moved are link) refl)

  growth-same : (closings : List Closing) (from to place : ℕ) → place < length wan.groups → (at : ℕ) → growth other closings from to place at ≡ growth wan closings from to (group_at place) at
  unfolding growth
  growth-same closings from to place lt at =
      ap (λ path_groups. row_growth closings path_groups (value place from) (value place to) at) (same_groups place lt)
      ∙ ap₂ (λ low high. row_growth closings (slice_index_or wan.groups (group_at place) []) low high at) (same_values place lt from) (same_values place lt to)

  next-same : (share : ℕ) (closings : List Closing) (amounts moved : ℕ → ℕ → ℕ) → AreMoved amounts moved
      → AreMoved (next_amounts wan (moment share closings amounts)) (next_amounts other (moment share closings moved))
  next-same share closings amounts moved are place lt =
      fun_ext (λ at. ap₂ (λ had more. had + more) (ap (λ row. row at) (are place lt)) (growth-same closings share (suc share) place lt at))

  -- a moment of the one filling, with the amounts in the other order
  record IsMoved (state moved : State) : Type 0 where
    pub amounts : ℕ → ℕ → ℕ
    pub is : moved ≡ moment state.share state.closings amounts
    pub are : AreMoved state.amounts amounts

  step-moved : (state moved : State) → IsMoved state moved → IsMoved (filling_step wan state) (filling_step other moved)
  unfolding filling_step step_by
  step-moved state moved is =
      subst (IsMoved (filling_step wan state)) (ap (filling_step other) (sym is.is))
      (subst (λ over. IsMoved (filling_step wan state) (if state.share == wan.top then moment state.share state.closings is.amounts else step_by other (moment state.share state.closings is.amounts) over))
      (sym (lowest-over-same (next_amounts wan state) (next_amounts other (moment state.share state.closings is.amounts)) (next-same state.share state.closings state.amounts is.amounts is.are)))
      (go (state.share == wan.top) (lowest_over wan.groups wan.capacities (next_amounts wan state)))) where
        go : (b : Bool) (over : Option ℕ) → IsMoved (if b then state else step_by wan state over) (if b then moment state.share state.closings is.amounts else step_by other (moment state.share state.closings is.amounts) over)
        go true over = record { amounts = is.amounts; is = refl; are = is.are }
        go false (Some link) = record { amounts = is.amounts; is = refl; are = is.are }
        go false None = record {
          amounts = next_amounts other (moment state.share state.closings is.amounts);
          is = refl;
          are = next-same state.share state.closings state.amounts is.amounts is.are;
        }

  steps-moved : (n : ℕ) → IsMoved (after_steps wan n first_state) (after_steps other n first_state)
  unfolding after_steps
  steps-moved zero = record { amounts = λ group place. 0; is = refl; are = λ place lt. refl }
  steps-moved (suc n) = step-moved (after_steps wan n first_state) (after_steps other n first_state) (steps-moved n)

  filling-moved : IsMoved (filling wan) (filling other)
  unfolding filling
  filling-moved = steps-moved (wan.top + length wan.capacities)

  pub closings-same : (filling other).closings ≡ (filling wan).closings
  closings-same = ap (λ state. state.closings) filling-moved.is

  pub amounts-moved : AreMoved (filling wan).amounts (filling other).amounts
  amounts-moved place lt = ap (λ state. state.amounts place) filling-moved.is ∙ filling-moved.are place lt

  -- the line of each group is the same
  pub line-same : (place : ℕ) → place < length wan.groups → group_line other (filling other) place ≡ group_line wan (filling wan) (group_at place)
  line-same place lt =
      ap (λ closings. row_line wan.top closings (slice_index_or groups place []) ((filling other).amounts place)) closings-same
      ∙ ap₂ (row_line wan.top (filling wan).closings) (same_groups place lt) (amounts-moved place lt)

  -- and each load
  pub loads-are : map (link_load groups (filling other).amounts) (numbers (length wan.capacities)) ≡ map (link_load wan.groups (filling wan).amounts) (numbers (length wan.capacities))
  loads-are = ap (λ load. map load (numbers (length wan.capacities))) (fun_ext (λ link. loads-same (filling wan).amounts (filling other).amounts amounts-moved link))
