-- Rows that are held in one list, and one amount of them changed.
use Rattle.std.proofs.Common.{◌≡◌, ℕ, zero, suc, ◌+◌, ◌-◌, ◌<◌, ◌≤◌, ◌≢◌, List, [], length, refl, sym, ◌∙◌, ap, arith, set, get_or, drop, inl, inr, length-take, length-drop}
use Rattle.std.proofs.lemmas.Bool.{cases_eq, cases_lt}
use Rattle.std.proofs.lemmas.List.{get_or-set_same, get_or-set_other, length-set, get_or-take, get_or-drop, get_or_past}
use Rattle.std.proofs.lemmas.Grind.{get_or_default_zero}
use Rattle.std.proofs.lemmas.List.FromFn.{length-map-range_with_len, get_or-map-range_with_len}
use Rattle.bwe_specs.specs.Paths.{PathGroups, path_group_count}
use Rattle.link_sums.specs.Sums.{amount_at, AreRowsOf}
use Rattle.link_sums.specs.Held.{row_held, rows_held, NeverFall, AreFirstsOf}

-- how many rows there are
pub rows-count : (firsts amounts : List ℕ) → length (rows_held firsts amounts) ≡ length firsts - 1
unfolding rows_held
rows-count firsts amounts = length-map-range_with_len (row_held firsts amounts) 0 (length firsts - 1)

-- the row of a group
pub row-is : (firsts amounts : List ℕ) (group : ℕ) → group < length firsts - 1 → get_or (rows_held firsts amounts) group [] ≡ row_held firsts amounts group
unfolding rows_held
row-is firsts amounts group lt = get_or-map-range_with_len (row_held firsts amounts) 0 (length firsts - 1) group group [] lt (omega arith)

-- there is no other row
pub row-past : (firsts amounts : List ℕ) (group : ℕ) → length firsts - 1 ≤ group → get_or (rows_held firsts amounts) group [] ≡ []
row-past firsts amounts group past = get_or_past (rows_held firsts amounts) group [] (omega (arith, past, rows-count firsts amounts))

-- how long a row is
pub row-length : (firsts amounts : List ℕ) (group count : ℕ) → get_or firsts (group + 1) 0 ≡ get_or firsts group 0 + count → get_or firsts (group + 1) 0 ≤ length amounts
    → length (row_held firsts amounts group) ≡ count
row-length firsts amounts group count next within =
    omega (arith, next, within, length-take (get_or firsts (group + 1) 0 - get_or firsts group 0) (drop (get_or firsts group 0) amounts), length-drop (get_or firsts group 0) amounts)

-- an amount of a row is one of all amounts
pub row-amount : (firsts amounts : List ℕ) (group place : ℕ) → place < get_or firsts (group + 1) 0 - get_or firsts group 0
    → get_or (row_held firsts amounts group) place 0 ≡ get_or amounts (get_or firsts group 0 + place) 0
row-amount firsts amounts group place within =
    get_or-take (get_or firsts (group + 1) 0 - get_or firsts group 0) (drop (get_or firsts group 0) amounts) place 0 within
    ∙ get_or-drop (get_or firsts group 0) amounts place 0

-- and behind its row there is none
pub row-end : (firsts amounts : List ℕ) (group place : ℕ) → get_or firsts (group + 1) 0 - get_or firsts group 0 ≤ place → get_or (row_held firsts amounts group) place 0 ≡ 0
row-end firsts amounts group place past =
    get_or_past (row_held firsts amounts group) place 0
    (omega (arith, past, length-take (get_or firsts (group + 1) 0 - get_or firsts group 0) (drop (get_or firsts group 0) amounts)))

-- an amount of the rows is 0, or one of all amounts
pub amounts-same : (firsts old new : List ℕ) (group place : ℕ)
    → (group < length firsts - 1 → place < get_or firsts (group + 1) 0 - get_or firsts group 0 → get_or new (get_or firsts group 0 + place) 0 ≡ get_or old (get_or firsts group 0 + place) 0)
    → amount_at (rows_held firsts new) group place ≡ amount_at (rows_held firsts old) group place
amounts-same firsts old new group place same =
    elim (cases_lt group (length firsts - 1)) [
      | inl lt ↦
          ap (λ (row : List ℕ). get_or row place 0) (row-is firsts new group lt)
          ∙ elim (cases_lt place (get_or firsts (group + 1) 0 - get_or firsts group 0)) [
            | inl within ↦ row-amount firsts new group place within ∙ same lt within ∙ sym (row-amount firsts old group place within)
            | inr past ↦ row-end firsts new group place past ∙ sym (row-end firsts old group place past)
          ]
          ∙ ap (λ (row : List ℕ). get_or row place 0) (sym (row-is firsts old group lt))
      | inr past ↦ ap (λ (row : List ℕ). get_or row place 0) (row-past firsts new group past ∙ sym (row-past firsts old group past))
    ]

-- where each of all amounts is 0, so is each of the rows
pub amounts-none : (firsts amounts : List ℕ) → ((entry : ℕ) → get_or amounts entry 0 ≡ 0) → (group place : ℕ) → amount_at (rows_held firsts amounts) group place ≡ 0
amounts-none firsts amounts none group place =
    elim (cases_lt group (length firsts - 1)) [
      | inl lt ↦
          ap (λ (row : List ℕ). get_or row place 0) (row-is firsts amounts group lt)
          ∙ elim (cases_lt place (get_or firsts (group + 1) 0 - get_or firsts group 0)) [
            | inl within ↦ row-amount firsts amounts group place within ∙ none (get_or firsts group 0 + place)
            | inr past ↦ row-end firsts amounts group place past
          ]
      | inr past ↦ ap (λ (row : List ℕ). get_or row place 0) (row-past firsts amounts group past)
    ]

-- the firsts of a plan
module _ (groups : List PathGroups) (firsts : List ℕ) (are : AreFirstsOf groups firsts) where
  rises : (lower more higher : ℕ) → higher ≡ lower + more → higher < length firsts → get_or firsts lower 0 ≤ get_or firsts higher 0
  rises lower zero higher is lt =
      let same : higher ≡ lower = omega (arith, is) in
      omega (arith, ap (λ (group : ℕ). get_or firsts group 0) same)
  rises lower (suc more) higher is lt =
      let next : higher ≡ lower + more + 1 = omega (arith, is) in
      omega (
        arith,
        rises lower more (lower + more) refl (omega (arith, next, lt)),
        are.each (lower + more) (omega (arith, next, lt, are.size)),
        ap (λ (group : ℕ). get_or firsts group 0) next,
      )

  pub firsts-never_fall : NeverFall firsts
  firsts-never_fall lower higher le lt = rises lower (higher - lower) higher (omega (arith, le)) lt

  -- over so many amounts they make the rows of the plan
  pub rows-opened : (amounts : List ℕ) → length amounts ≡ get_or firsts (length groups) 0 → AreRowsOf groups (rows_held firsts amounts)
  rows-opened amounts count = record {
    each_group = omega (arith, rows-count firsts amounts, are.size);
    each_place = λ group lt.
        ap length (row-is firsts amounts group (omega (arith, lt, are.size)))
        ∙ row-length firsts amounts group (path_group_count groups group) (are.each group lt)
        (omega (arith, count, firsts-never_fall (group + 1) (length groups) (omega (arith, lt)) (omega (arith, are.size))));
  }

-- the entry of one amount, and what becomes of the rows where it is changed
module _ (groups : List PathGroups) (firsts amounts : List ℕ) (group place : ℕ)
    (rows : List (List ℕ)) (view : rows_held firsts amounts ≡ rows) (are : AreRowsOf groups rows) (in_groups : group < length groups) (in_group : place < path_group_count groups group) where
  in_rows : group < length firsts - 1
  in_rows = omega (arith, in_groups, are.each_group, rows-count firsts amounts, ap length view)

  pub in_firsts : group < length firsts
  in_firsts = omega (arith, in_rows)

  row-here : get_or rows group [] ≡ row_held firsts amounts group
  row-here = ap (λ (ys : List (List ℕ)). get_or ys group []) (sym view) ∙ row-is firsts amounts group in_rows

  in_row : place < length (row_held firsts amounts group)
  in_row = omega (arith, in_group, are.each_place group in_groups, ap length row-here)

  within : place < get_or firsts (group + 1) 0 - get_or firsts group 0
  within = omega (arith, in_row, length-take (get_or firsts (group + 1) 0 - get_or firsts group 0) (drop (get_or firsts group 0) amounts))

  module _ (entry : ℕ) (entry_is : entry ≡ get_or firsts group 0 + place) where
    pub in_amounts : entry < length amounts
    in_amounts =
        omega (
          arith,
          entry_is,
          in_row,
          length-take (get_or firsts (group + 1) 0 - get_or firsts group 0) (drop (get_or firsts group 0) amounts),
          length-drop (get_or firsts group 0) amounts,
        )

    pub amount-before : (before : ℕ) → before ≡ get_or amounts entry before → before ≡ amount_at rows group place
    amount-before before found =
        found ∙ get_or_default_zero amounts entry before in_amounts ∙ ap (λ (at : ℕ). get_or amounts at 0) entry_is
        ∙ sym (row-amount firsts amounts group place within)
        ∙ ap (λ (row : List ℕ). get_or row place 0) (sym row-here)

    pub amount-after : (value : ℕ) → amount_at (rows_held firsts (set amounts entry value)) group place ≡ value
    amount-after value =
        ap (λ (row : List ℕ). get_or row place 0) (row-is firsts (set amounts entry value) group in_rows)
        ∙ row-amount firsts (set amounts entry value) group place within
        ∙ ap (λ (at : ℕ). get_or (set amounts entry value) at 0) (sym entry_is)
        ∙ get_or-set_same amounts entry value 0 in_amounts

    pub rows-after : (value : ℕ) → AreRowsOf groups (rows_held firsts (set amounts entry value))
    rows-after value =
        let after = set amounts entry value in
        record {
          each_group = omega (arith, rows-count firsts after, rows-count firsts amounts, ap length view, are.each_group);
          each_place = λ other lt.
              let inside : other < length firsts - 1 = omega (arith, lt, are.each_group, rows-count firsts amounts, ap length view) in
              let size = get_or firsts (other + 1) 0 - get_or firsts other 0 in
              let first = get_or firsts other 0 in
              omega (
                arith,
                ap length (row-is firsts after other inside),
                ap length (row-is firsts amounts other inside),
                ap (λ (ys : List (List ℕ)). length (get_or ys other [])) view,
                length-take size (drop first after),
                length-drop first after,
                length-set amounts entry value,
                length-take size (drop first amounts),
                length-drop first amounts,
                are.each_place other lt,
              );
        }

    -- no other place, of this group or of another one, is the same entry
    apart : NeverFall firsts → (group' place' : ℕ) → (group' ≡ group → place' ≡ place → ⊥) → group' < length firsts - 1 → place' < get_or firsts (group' + 1) 0 - get_or firsts group' 0
        → get_or firsts group' 0 + place' ≢ entry
    apart never group' place' other lt under same =
        elim (cases_eq group' group) [
          | inl e ↦ other e (omega (arith, same, entry_is, ap (λ (g : ℕ). get_or firsts g 0) e))
          | inr differ ↦ elim (cases_lt group' group) [
            | inl below ↦ absurd (omega (arith, same, entry_is, under, never (group' + 1) group (omega (arith, below)) in_firsts))
            | inr above ↦ absurd (omega (arith, same, entry_is, within, never (group + 1) group' (omega (arith, above, differ)) (omega (arith, lt))))
          ]
        ]

    pub amount-others : NeverFall firsts → (value group' place' : ℕ) → (group' ≡ group → place' ≡ place → ⊥)
        → amount_at (rows_held firsts (set amounts entry value)) group' place' ≡ amount_at rows group' place'
    amount-others never value group' place' other =
        amounts-same firsts amounts (set amounts entry value) group' place'
        (λ lt under. get_or-set_other amounts entry (get_or firsts group' 0 + place') value 0 (apart never group' place' other lt under))
        ∙ ap (λ (ys : List (List ℕ)). amount_at ys group' place') view
