-- The closings of a moment are the first of the filling's, and the next search ends at the next of them.
use Rattle.std.proofs.Common.{◌≡◌, ℕ, zero, suc, ◌+◌, ◌<◌, ◌≤◌, Bool, true, false, List, [], ◌∷◌, ◌++◌, length, reverse, Option, Some, None, min, max, refl, sym, ◌∙◌, ap, subst, arith, get_or, if◌then◌else◌, ◌==◌, append_assoc, length-append, le_refl, inl, inr, lt-ltb, le-ltb}
use mathlib.Core.List.{reverse-cons}
use Rattle.std.proofs.Math.ListN.{get_or-eq_default}
use Rattle.std.proofs.lemmas.List.{reverse-append, length-reverse}
use Rattle.bwe_specs.specs.declared.network.Closing.{Closing}
use Rattle.bwe_specs.specs.Paths.{lowest_over}
use Rattle.bwe_specs.specs.Filling.{Wan, State, next_amounts, step_by, filling_step, after_steps, first_state, filling, IsReached}
use Rattle.bwe_specs.specs.RightClosings.{amounts_at, over_at}
use Rattle.bwe_specs.specs.Values.{NeverFalls}
use Rattle.bwe_specs.proofs.Jumps.{state_at, reached-jump}
use Rattle.bwe_specs.proofs.Steps.{IsSound, steps-at_top, steps-add, filling-at_top, reached-sound, reached-filling, reached-step, next_amounts-is, step-below}
use Rattle.mono_search.specs.Level.{IsGreatestFit}
use Rattle.std.proofs.lemmas.Bool.{cases_lt}
use Rattle.mpfa_fill.proofs.MomentLemmas.{fits-reached}
use Rattle.mpfa_solver.specs.Search.{fits_from}
use Rattle.mpfa_solver.specs.Stops.{hint_of, searches}
use Rattle.mpfa_solver.proofs.Levels.{fits-found, over-next}

-- a step keeps the closings, or adds one
step-later : (wan : Wan) (state : State) → (later : List Closing) × ((filling_step wan state).closings ≡ later ++ state.closings)
unfolding filling_step step_by
step-later wan state = go (state.share == wan.top) (lowest_over wan.groups wan.capacities (next_amounts wan state)) where
  go : (at_top : Bool) (over : Option ℕ) → (later : List Closing) × ((if at_top then state else step_by wan state over).closings ≡ later ++ state.closings)
  go true over = ([], refl)
  go false None = ([], refl)
  go false (Some link) = (record { link = link; share = state.share } ∷ [], refl)

steps-later : (wan : Wan) (n : ℕ) (state : State) → (later : List Closing) × ((after_steps wan n state).closings ≡ later ++ state.closings)
unfolding after_steps
steps-later wan zero state = ([], refl)
steps-later wan (suc n) state =
    let before = steps-later wan n state in
    let more = step-later wan (after_steps wan n state) in
    (more.0 ++ before.0, more.1 ∙ ap (λ cs. more.0 ++ cs) before.1 ∙ sym (append_assoc more.0 before.0 state.closings))

-- so the closings of a moment are the first of the filling's
pub reached-later : (wan : Wan) → NeverFalls wan → (state : State) → IsReached wan state → (later : List Closing) × ((filling wan).closings ≡ later ++ state.closings)
unfolding filling
reached-later wan never state reached =
    let n = wan.top + length wan.capacities in
    let there : after_steps wan n state ≡ filling wan =
    ap (after_steps wan n) reached.is ∙ steps-add wan n reached.steps first_state
    ∙ ap (λ k. after_steps wan k first_state) (omega arith)
    ∙ sym (steps-add wan reached.steps n first_state)
    ∙ steps-at_top wan reached.steps (filling wan) (filling-at_top wan never) in
    let later = steps-later wan n state in
    (later.0, ap (λ (s : State). s.closings) (sym there) ∙ later.1)

-- and they are no more
pub reached-no_more : (wan : Wan) → NeverFalls wan → (state : State) → IsReached wan state → length state.closings ≤ length (filling wan).closings
reached-no_more wan never state reached =
    let later = reached-later wan never state reached in
    omega (arith, ap length later.1, length-append later.0 state.closings)

-- from a moment of the filling up to a share at which every link fits
pub reached-at : (wan : Wan) → NeverFalls wan → (state next : State) → IsReached wan state → next.closings ≡ state.closings → state.share ≤ next.share → next.share ≤ wan.top
    → next.amounts ≡ amounts_at wan state.closings next.share → over_at wan state.closings next.share ≡ None → IsReached wan next
reached-at wan never state next reached closings order within amounts fits =
    let sound : IsSound wan state = reached-sound wan never state reached in
    let here : IsReached wan (state_at wan state.closings state.share) =
    subst (λ x. IsReached wan (record { share = state.share; closings = state.closings; amounts = x })) sound.amounts_are reached in
    let there : IsReached wan (state_at wan state.closings next.share) = reached-jump wan never state.closings state.share next.share sound.last order within fits here in
    let same : next ≡ state_at wan state.closings next.share =
    ap (λ cs. record { share = next.share; closings = cs; amounts = next.amounts }) closings
    ∙ ap (λ x. record { share = next.share; closings = state.closings; amounts = x }) amounts in
    subst (IsReached wan) (sym same) there

-- where a link is over at the next share, the step closes one
pub step-adds : (wan : Wan) → NeverFalls wan → (state : State) (link : ℕ) → IsReached wan state → state.share < wan.top → over_at wan state.closings (suc state.share) ≡ Some link
    → ((filling_step wan state).closings ≡ record { link = link; share = state.share } ∷ state.closings) × ((filling_step wan state).share ≡ state.share)
unfolding step_by
step-adds wan never state link reached below over =
    let stepped : filling_step wan state ≡ record state { closings = record { link = link; share = state.share } ∷ state.closings } =
    step-below wan state below
    ∙ ap (step_by wan state) (ap (lowest_over wan.groups wan.capacities) (next_amounts-is wan never state (reached-sound wan never state reached) below) ∙ over) in
    (ap (λ (s : State). s.closings) stepped, ap (λ (s : State). s.share) stepped)

-- the closing at a place of the list, in its order
place-of : (later earlier : List Closing) (closing d : Closing) → get_or (reverse (later ++ closing ∷ earlier)) (length earlier) d ≡ closing
place-of later earlier closing d =
    let split : reverse (later ++ closing ∷ earlier) ≡ reverse earlier ++ (closing ∷ reverse later) =
    reverse-append later (closing ∷ earlier) ∙ ap (λ cs. cs ++ reverse later) (reverse-cons closing earlier) ∙ append_assoc (reverse earlier) (closing ∷ []) (reverse later) in
    ap (λ cs. get_or cs (length earlier) d) split
    ∙ ap (λ n. get_or (reverse earlier ++ (closing ∷ reverse later)) n d) (sym (length-reverse earlier))
    ∙ at-end (reverse earlier) where
      at-end : (cs : List Closing) → get_or (cs ++ (closing ∷ reverse later)) (length cs) d ≡ closing
      at-end [] = refl
      at-end (c ∷ cs) = at-end cs

inside : (low top share : ℕ) → low ≤ share → share ≤ top → min top (max low share) ≡ share
inside low top share from upto = omega arith

-- where the hints are the filling's closings, the hint is where the search ends: at a closing ..
pub hint-closing : (wan : Wan) → NeverFalls wan → (state : State) (hints : List Closing) (link low : ℕ) → IsReached wan state → state.share < wan.top → over_at wan state.closings (suc state.share) ≡ Some link
    → low ≤ state.share → hints ≡ reverse (filling wan).closings → hint_of hints (length state.closings) low wan.top ≡ state.share
hint-closing wan never state hints link low reached below over from right =
    let adds = step-adds wan never state link reached below over in
    let d : Closing = record { link = 0; share = wan.top } in
    let closing : Closing = record { link = link; share = state.share } in
    let later = reached-later wan never (filling_step wan state) (reached-step wan state reached) in
    let whole : (filling wan).closings ≡ later.0 ++ closing ∷ state.closings = later.1 ∙ ap (λ cs. later.0 ++ cs) adds.0 in
    let found : get_or hints (length state.closings) d ≡ closing =
    ap (λ cs. get_or cs (length state.closings) d) (right ∙ ap reverse whole) ∙ place-of later.0 state.closings closing d in
    ap (λ (c : Closing). min wan.top (max low c.share)) found ∙ inside low wan.top state.share from (omega arith)

-- .. or at the top
pub hint-top : (wan : Wan) → NeverFalls wan → (state : State) (hints : List Closing) (low : ℕ) → IsReached wan state → state.share ≡ wan.top → low ≤ wan.top
    → hints ≡ reverse (filling wan).closings → hint_of hints (length state.closings) low wan.top ≡ wan.top
hint-top wan never state hints low reached at_top from right =
    let d : Closing = record { link = 0; share = wan.top } in
    let all : state.closings ≡ (filling wan).closings = ap (λ (s : State). s.closings) (reached-filling wan never state reached at_top) in
    let past : length hints ≤ length state.closings = omega (arith, ap length right, length-reverse (filling wan).closings, ap length all) in
    ap (λ (c : Closing). min wan.top (max low c.share)) (get_or-eq_default hints d past) ∙ inside low wan.top wan.top from (le_refl wan.top)

-- a search that was followed from a moment of the filling comes to a moment of the filling
pub risen-reached : (wan wan' : Wan) → NeverFalls wan → (state next : State) → wan' ≡ wan → IsReached wan state → next.closings ≡ state.closings
    → IsGreatestFit (fits_from wan state.closings state.share) state.share wan.top next.share → next.amounts ≡ amounts_at wan' next.closings next.share → IsReached wan next
risen-reached wan wan' never state next same reached closings answer amounts =
    reached-at wan never state next reached closings answer.from answer.upto
    (amounts ∙ ap (λ w. amounts_at w next.closings next.share) same ∙ ap (λ cs. amounts_at wan cs next.share) closings)
    (fits-found wan state.closings state.share next.share answer (fits-reached wan never state reached))

-- and where the hints are the filling's closings, at the hint
pub risen-hint : (wan : Wan) → NeverFalls wan → (state next : State) (hints : List Closing) → IsReached wan next → next.closings ≡ state.closings
    → IsGreatestFit (fits_from wan state.closings state.share) state.share wan.top next.share → hints ≡ reverse (filling wan).closings
    → hint_of hints (length state.closings) state.share wan.top ≡ next.share
risen-hint wan never state next hints reached closings answer right =
    ap (λ (cs : List Closing). hint_of hints (length cs) state.share wan.top) (sym closings)
    ∙ elim (cases_lt next.share wan.top) [
      | inl below ↦
          let over = over-next wan state.closings state.share next.share answer below in
          hint-closing wan never next hints over.0 state.share reached below (ap (λ cs. over_at wan cs (suc next.share)) closings ∙ over.1) answer.from right
      | inr le ↦
          let at_top : next.share ≡ wan.top = omega (arith, answer.upto) in
          hint-top wan never next hints state.share reached at_top (omega (arith, answer.from, at_top)) right ∙ sym at_top
    ]

-- how many searches led to a state, below the top and at the top
pub searches-below : (top : ℕ) (state : State) → state.share < top → searches top state ≡ length state.closings
searches-below top state below = rw (lt-ltb state.share top below) (omega arith)

pub searches-at_top : (top : ℕ) (state : State) → top ≤ state.share → searches top state ≡ length state.closings + 1
searches-at_top top state le = rw (le-ltb state.share top le)
