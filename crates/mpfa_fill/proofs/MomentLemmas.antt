-- Moments, as the code's parts make them.
use Rattle.std.proofs.Common.{◌≡◌, ℕ, suc, ◌<◌, ◌≤◌, List, [], ◌∷◌, ◌++◌, length, reverse, Some, None, sym, ◌∙◌, ap, ap₂, subst}
use Rattle.std.proofs.lemmas.List.{reverse-append}
use Rattle.bwe_specs.specs.declared.limits.TheConstants.{MAX_TOTAL}
use Rattle.bwe_specs.specs.declared.network.Closing.{Closing}
use Rattle.bwe_specs.specs.Bounded.{sum_below}
use Rattle.bwe_specs.specs.Filling.{Wan, State, next_amounts, step_by, filling_step, first_state, IsReached}
use Rattle.bwe_specs.specs.Paths.{PathGroups, lowest_over}
use Rattle.bwe_specs.specs.RightClosings.{amounts_at, over_at, IsRightAfter, AreRight}
use Rattle.bwe_specs.proofs.Growth.{amounts_at-closed, amounts_at-start}
use Rattle.bwe_specs.proofs.Steps.{reached-sound, next_amounts-is, step-below, closing-right}
use Rattle.bwe_specs.specs.Values.{NeverFalls}
use Rattle.mpfa_fill.specs.GroupValues.{Values, AreGroupValues, wan_of}

pub never_falls : (values : Values) (groups : List PathGroups) (capacities : List ℕ) → AreGroupValues values → NeverFalls (wan_of values groups capacities)
never_falls values groups capacities known = record { next = known.never_falls }

-- all groups have at most so much together
pub together : (values : Values) (groups : List PathGroups) → AreGroupValues values → values.groups ≡ length groups → sum_below (length groups) (λ group. values.value group values.top) ≤ MAX_TOTAL
together values groups known count = subst (λ n. sum_below n (λ group. values.value group values.top) ≤ MAX_TOTAL) count known.together

pub reverse_push : (closings : List Closing) (closing : Closing) → reverse (closings ++ closing ∷ []) ≡ closing ∷ reverse closings
reverse_push closings closing = reverse-append closings (closing ∷ [])

-- a state is its parts
same-state : (state other : State) → state.share ≡ other.share → state.closings ≡ other.closings → state.amounts ≡ other.amounts → state ≡ other
same-state state other share closings amounts =
    ap (λ s. record { share = s; closings = state.closings; amounts = state.amounts }) share
    ∙ ap (λ cs. record { share = other.share; closings = cs; amounts = state.amounts }) closings
    ∙ ap (λ x. record { share = other.share; closings = other.closings; amounts = x }) amounts

module _ (wan : Wan) (never : NeverFalls wan) (state : State) (reached : IsReached wan state) (below : state.share < wan.top) where
  next-over : lowest_over wan.groups wan.capacities (next_amounts wan state) ≡ over_at wan state.closings (suc state.share)
  next-over = ap (lowest_over wan.groups wan.capacities) (next_amounts-is wan never state (reached-sound wan never state reached) below)

  -- where every link fits at the next share, the state there is that after a step
  pub step-rises : (next : State) → next.share ≡ suc state.share → next.closings ≡ state.closings → next.amounts ≡ amounts_at wan next.closings next.share
      → None ≡ over_at wan next.closings next.share → next ≡ filling_step wan state
  unfolding step_by
  step-rises next share closings amounts fits =
      let none : lowest_over wan.groups wan.capacities (next_amounts wan state) ≡ None =
      next-over ∙ sym (ap₂ (λ cs s. over_at wan cs s) closings share) ∙ sym fits in
      same-state next _ share closings (amounts ∙ ap₂ (amounts_at wan) closings share ∙ sym (next_amounts-is wan never state (reached-sound wan never state reached) below))
      ∙ sym (step-below wan state below ∙ ap (step_by wan state) none)

  -- where links are over there, the lowest may be closed ..
  pub step-right : (link : ℕ) → Some link ≡ over_at wan state.closings (suc state.share) → IsRightAfter wan state.closings (record { link = link; share = state.share })
  step-right link over = closing-right wan never state link (reached-sound wan never state reached) below (next-over ∙ sym over)

  -- .. and the state after that is that after a step
  pub step-closes : (next : State) (link : ℕ) → Some link ≡ over_at wan state.closings (suc state.share) → next.share ≡ state.share → next.closings ≡ record { link = link; share = state.share } ∷ state.closings
      → next.amounts ≡ amounts_at wan next.closings next.share → next ≡ filling_step wan state
  unfolding step_by
  step-closes next link over share closings amounts =
      let closing : Closing = record { link = link; share = state.share } in
      let sound = reached-sound wan never state reached in
      same-state next (record { share = state.share; closings = closing ∷ state.closings; amounts = state.amounts }) share closings
      (amounts ∙ ap₂ (amounts_at wan) closings share ∙ sym (amounts_at-closed wan closing state.closings) ∙ sym sound.amounts_are)
      ∙ sym (step-below wan state below ∙ ap (step_by wan state) (next-over ∙ sym over))

-- what is over, and what is right, over equal parts
pub over-along : (wan wan' : Wan) (closings closings' : List Closing) (share share' : ℕ) → wan ≡ wan' → closings ≡ closings' → share ≡ share' → over_at wan closings share ≡ over_at wan' closings' share'
over-along wan wan' closings closings' share share' e f h =
    ap (λ w. over_at w closings share) e ∙ ap₂ (λ cs s. over_at wan' cs s) f h

pub amounts-along : (wan wan' : Wan) (closings : List Closing) (share : ℕ) (x : ℕ → ℕ → ℕ) → wan ≡ wan' → x ≡ amounts_at wan closings share → x ≡ amounts_at wan' closings share
amounts-along wan wan' closings share x e is = is ∙ ap (λ w. amounts_at w closings share) e

pub right-along : (wan wan' : Wan) (closings closings' : List Closing) (link share share' : ℕ) → wan ≡ wan' → closings ≡ closings' → share ≡ share' → IsRightAfter wan' closings' (record { link = link; share = share' }) → IsRightAfter wan closings (record { link = link; share = share })
right-along wan wan' closings closings' link share share' e f h right =
    subst (λ w. IsRightAfter w closings (record { link = link; share = share })) (sym e)
    (subst (λ cs. IsRightAfter wan' cs (record { link = link; share = share })) (sym f)
    (subst (λ s. IsRightAfter wan' closings' (record { link = link; share = s })) (sym h) right))

-- at share 0 with nothing closed the filling has begun
pub first-is : (wan : Wan) (state : State) → state.share ≡ 0 → state.closings ≡ [] → state.amounts ≡ amounts_at wan state.closings state.share → state ≡ first_state
first-is wan state share closings amounts =
    same-state state first_state share closings (amounts ∙ ap₂ (amounts_at wan) closings share ∙ amounts_at-start wan)

-- at a moment of the filling every link fits
pub fits-reached : (wan : Wan) → NeverFalls wan → (state : State) → IsReached wan state → over_at wan state.closings state.share ≡ None
fits-reached wan never state reached =
    let sound = reached-sound wan never state reached in
    ap (lowest_over wan.groups wan.capacities) (sym sound.amounts_are) ∙ sound.fits

pub right-all-along : (wan wan' : Wan) (closings closings' : List Closing) → wan ≡ wan' → closings ≡ closings' → AreRight wan' closings' → AreRight wan closings
right-all-along wan wan' closings closings' e f right =
    subst (λ w. AreRight w closings) (sym e) (subst (AreRight wan') (sym f) right)
