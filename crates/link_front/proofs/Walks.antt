-- A walk over the groups that use a link stands for one over all groups.
use Rattle.std.proofs.Common.{◌≡◌, ℕ, zero, suc, ◌+◌, ◌<◌, ◌≤◌, Bool, true, false, List, length, refl, sym, ◌∙◌, arith, subst, inl, inr, slice_index, slice_index_or, add-one}
use Rattle.std.proofs.lemmas.Bool.{cases_eq, cases_lt}
use Rattle.std.proofs.lemmas.List.{get_or_default}
use Rattle.std.proofs.Math.ListN.{get_or-eq_default}
use Rattle.bwe_specs.specs.Paths.{PathGroups, path_group_at, uses}
use Rattle.link_front.specs.ByLink.{AreGroupsOn}

-- the group uses the link on none of its path groups
abbrev pub UsesNot : List PathGroups → ℕ → ℕ → Type 0
UsesNot groups link group = (place : ℕ) → uses (path_group_at groups group place) link ≡ false

-- the group of a place in the list, or the number of all groups at its end
abbrev pub reached : List ℕ → List PathGroups → ℕ → ℕ
reached list groups i = slice_index_or list i (length groups)

-- from one number of groups to a later one, a group at a time
skip : (P : ℕ → Type 0) (from to : ℕ) → from ≤ to → ((group : ℕ) → from ≤ group → group < to → P group → P (group + 1)) → P from → P to
skip P from zero le step p = let e : from ≡ zero = omega (arith, le) in subst P e p
skip P from (suc to) le step p = elim (cases_eq from (suc to)) [
  | inl e ↦ subst P e p
  | inr other ↦ subst P (add-one to) (step to (omega (arith, le, other)) (omega arith) (skip P from to (omega (arith, le, other)) (λ group above below. step group above (omega (arith, below))) p))
]

module _ (groups : List PathGroups) (link : ℕ) (list : List ℕ) (are : AreGroupsOn groups link list) where
  -- the groups between two of the list use the link nowhere
  apart : (i group : ℕ) → ((j : ℕ) → j < i → j < length list → slice_index list j < group) → group < reached list groups i → UsesNot groups link group
  apart i group above below place = go (uses (path_group_at groups group place) link) refl where
    found : (k : ℕ) → k < length list → slice_index_or list k group ≡ group → ⊥
    found k lt is =
        let here : slice_index list k ≡ group = get_or_default list k 0 group lt ∙ is in
        elim (cases_lt k i) [
          | inl earlier ↦ absurd (omega (arith, above k earlier lt, here))
          | inr later ↦
              let there : slice_index list i ≡ reached list groups i = get_or_default list i 0 (length groups) (omega (arith, lt, later)) in
              elim (cases_eq i k) [
                | inl e ↦
                    let same : slice_index list i ≡ group = subst (λ n. slice_index list n ≡ group) (sym e) here in
                    absurd (omega (arith, below, there, same))
                | inr other ↦ absurd (omega (arith, below, there, here, are.ascending.rise i k (omega (arith, later, other)) lt))
              ]
        ]

    go : (used : Bool) → uses (path_group_at groups group place) link ≡ used → used ≡ false
    go false e = refl
    go true e = let has = are.each group place e in absurd (found has.0 has.1 has.2)

  pub walk-start : (P : ℕ → Type 0) → P 0 → ((group : ℕ) → group < length groups → UsesNot groups link group → P group → P (group + 1)) → P (reached list groups 0)
  walk-start P p step = skip P 0 (reached list groups 0) (omega arith) (λ group above below here. step group (within group below) (apart 0 group (λ j lt inside. absurd (omega (arith, lt))) below) here) p where
    within : (group : ℕ) → group < reached list groups 0 → group < length groups
    within group below = elim (cases_lt 0 (length list)) [
      | inl lt ↦ omega (arith, below, are.ascending.below 0 lt, get_or_default list 0 0 (length groups) lt)
      | inr past ↦ omega (arith, below, get_or-eq_default list (length groups) past)
    ]

  pub walk-next : (P : ℕ → Type 0) (i : ℕ) → i < length list → P (slice_index list i + 1) → ((group : ℕ) → group < length groups → UsesNot groups link group → P group → P (group + 1)) → P (reached list groups (i + 1))
  walk-next P i lt p step = skip P (slice_index list i + 1) (reached list groups (i + 1)) rises (λ group above below here. step group (within group below) (apart (i + 1) group (lower group above) below) here) p where
    rises : slice_index list i + 1 ≤ reached list groups (i + 1)
    rises = elim (cases_lt (i + 1) (length list)) [
      | inl inside ↦ omega (arith, are.ascending.rise i (i + 1) (omega arith) inside, get_or_default list (i + 1) 0 (length groups) inside)
      | inr past ↦ omega (arith, are.ascending.below i lt, get_or-eq_default list (length groups) past)
    ]

    within : (group : ℕ) → group < reached list groups (i + 1) → group < length groups
    within group below = elim (cases_lt (i + 1) (length list)) [
      | inl inside ↦ omega (arith, below, are.ascending.below (i + 1) inside, get_or_default list (i + 1) 0 (length groups) inside)
      | inr past ↦ omega (arith, below, get_or-eq_default list (length groups) past)
    ]

    lower : (group : ℕ) → slice_index list i + 1 ≤ group → (j : ℕ) → j < i + 1 → j < length list → slice_index list j < group
    lower group above j before inside = elim (cases_eq j i) [
      | inl e ↦ omega (arith, above, subst (λ n. slice_index list n + 1 ≤ group) (sym e) above)
      | inr other ↦ omega (arith, above, are.ascending.rise j i (omega (arith, before, other)) lt)
    ]

  pub walk-end : (P : ℕ → Type 0) (i : ℕ) → length list ≤ i → P (reached list groups i) → P (length groups)
  walk-end P i past = subst P (get_or-eq_default list (length groups) past)

  -- where the walk has come to
  pub walk-here : (P : ℕ → Type 0) (i : ℕ) → i < length list → P (reached list groups i) → P (slice_index list i)
  walk-here P i lt = subst P (sym (get_or_default list i 0 (length groups) lt))
