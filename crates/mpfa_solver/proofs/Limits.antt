-- Shares above which nothing fits: by a failed test, and by one link that is over.
use Rattle.std.proofs.Common.{◌≡◌, ℕ, suc, ◌-◌, ◌<◌, ◌≤◌, Bool, true, false, List, length, Option, Some, None, is_none, refl, sym, ◌∙◌, ap, subst, arith, inl, inr, reverse}
use Rattle.std.proofs.lemmas.Bool.{cases_lt}
use Rattle.std.proofs.lemmas.List.{length-reverse}
use Rattle.mono_search.specs.Level.{Falls, IsGreatestFit}
use Rattle.bwe_specs.specs.declared.network.Closing.{Closing}
use Rattle.bwe_specs.specs.Bounded.{greatest_upto}
use Rattle.bwe_specs.specs.Paths.{is_over, lowest_over}
use Rattle.bwe_specs.specs.Filling.{Wan, State, filling, IsReached}
use Rattle.bwe_specs.specs.RightClosings.{last_share, amounts_at, over_at}
use Rattle.bwe_specs.specs.Values.{NeverFalls}
use Rattle.bwe_specs.proofs.Bounds.{lowest-none, lowest-some, greatest-le, greatest-passes, greatest-above}
use Rattle.bwe_specs.proofs.Jumps.{state_at}
use Rattle.bwe_specs.proofs.Steps.{IsSound, reached-sound}
use Rattle.mpfa_fill.specs.LastFit.{is_over_at, IsLastFit}
use Rattle.mpfa_solver.specs.Search.{fits_from, IsBound}
use Rattle.mpfa_solver.specs.Stops.{hint_of}
use Rattle.mpfa_solver.proofs.Levels.{fits-low, fits-between, fits-falls}
use Rattle.mpfa_solver.proofs.NextStop.{risen-reached, risen-hint}

-- nothing is above the top
pub bound-top : (fits : ℕ → Bool) (low top : ℕ) → low ≤ top → IsBound fits low top top
bound-top fits low top order = record { from = order; upto = omega arith; none_above = λ share above within. absurd (omega arith) }

module _ (fits : ℕ → Bool) (low top : ℕ) where
  -- a share below the first that was found not to fit
  pub bound-failed : Falls fits → (share : ℕ) → low < share → share ≤ top → fits share ≡ false → IsBound fits low top (share - 1)
  bound-failed falls share above within fails = record {
    from = omega arith;
    upto = omega arith;
    none_above = λ higher beyond upto. go higher (fits higher) refl (omega arith);
  } where
    go : (higher : ℕ) (b : Bool) → fits higher ≡ b → share ≤ higher → fits higher ≡ false
    go higher false e le = e
    go higher true e le = let fit : fits share ≡ true = falls.lower share higher le e in absurd (cc)

  -- a bound that fits is the answer ..
  pub greatest-bound : (bound : ℕ) → IsBound fits low top bound → fits bound ≡ true → IsGreatestFit fits low top bound
  greatest-bound bound is fit = record { from = is.from; upto = is.upto; fit = fit; greatest = is.none_above }

  -- .. and so is the greatest that fits up to a bound
  pub greatest-within : (bound share : ℕ) → IsBound fits low top bound → IsGreatestFit fits low bound share → IsGreatestFit fits low top share
  greatest-within bound share is found = record {
    from = found.from;
    upto = omega (arith, found.upto, is.upto);
    fit = found.fit;
    greatest = λ higher above within. elim (cases_lt bound higher) [
      | inl beyond ↦ is.none_above higher beyond within
      | inr le ↦ found.greatest higher above le
    ];
  }

  -- no bound is below the answer
  pub bound-over : (bound share : ℕ) → IsBound fits low top bound → IsGreatestFit fits low top share → share ≤ bound
  bound-over bound share is found = elim (cases_lt bound share) [
    | inl below ↦ let misfit : fits share ≡ false = is.none_above share below found.upto in let fit : fits share ≡ true = found.fit in absurd (cc)
    | inr le ↦ le
  ]

module _ (wan : Wan) (never : NeverFalls wan) (closings : List Closing) (low : ℕ) (last : last_share closings ≤ low) (link : ℕ) (in_range : link < length wan.capacities) where
  -- where one link is over, not every link fits
  fits-not : (share : ℕ) → low < share → share ≤ wan.top → is_over_at wan closings share link ≡ true → fits_from wan closings low share ≡ false
  unfolding lowest_over
  fits-not share above within over = go (over_at wan closings share) refl where
    go : (o : Option ℕ) → over_at wan closings share ≡ o → fits_from wan closings low share ≡ false
    go (Some found) e = fits-between wan closings low share above within ∙ ap is_none e
    go None e =
        let misfit : is_over_at wan closings share link ≡ false = lowest-none (length wan.capacities) (is_over wan.groups wan.capacities (amounts_at wan closings share)) e link in_range in
        absurd (cc)

  -- so the greatest share at which one link fits is a bound
  pub bound-last_fit : (high share : ℕ) → IsBound (fits_from wan closings low) low wan.top high → IsLastFit wan closings link low high share → IsBound (fits_from wan closings low) low wan.top share
  bound-last_fit high share is found = record {
    from = found.from;
    upto = omega (arith, found.upto, is.upto);
    none_above = λ higher above within. elim (cases_lt share high) [
      | inl below ↦
          let next : fits_from wan closings low (suc share) ≡ false = fits-not (suc share) (omega (arith, found.from)) (omega (arith, below, is.upto)) (found.over_next below) in
          let failed = bound-failed (fits_from wan closings low) low wan.top (fits-falls wan closings low never last) (suc share) (omega (arith, found.from)) (omega (arith, below, is.upto)) next in
          failed.none_above higher (omega arith) within
      | inr le ↦ is.none_above higher (omega (arith, found.upto, above)) within
    ];
  }

-- the lowest link that is over is a link
pub over-link : (wan : Wan) (closings : List Closing) (share link : ℕ) → over_at wan closings share ≡ Some link → link < length wan.capacities
unfolding lowest_over
over-link wan closings share link over = (lowest-some (length wan.capacities) (is_over wan.groups wan.capacities (amounts_at wan closings share)) link over).below

-- there is a greatest share that fits
greatest-some : (wan : Wan) (closings : List Closing) (low : ℕ) → NeverFalls wan → last_share closings ≤ low → low ≤ wan.top → (share : ℕ) × IsGreatestFit (fits_from wan closings low) low wan.top share
greatest-some wan closings low never last within = (
  found,
  record {
    from = elim (cases_lt found low) [
      | inl below ↦ let misfit : fits low ≡ false = greatest-above wan.top fits low below within in let fit : fits low ≡ true = fits-low wan closings low low (omega arith) in absurd (cc)
      | inr le ↦ le
    ];
    upto = greatest-le wan.top fits;
    fit = greatest-passes wan.top fits (fits-low wan closings low 0 (omega arith));
    greatest = greatest-above wan.top fits;
  },
) where
  fits : ℕ → Bool
  fits = fits_from wan closings low

  found : ℕ
  found = greatest_upto wan.top (fits_from wan closings low)

-- where the hints are the filling's closings, the hint is where the search ends
pub hint-greatest : (wan : Wan) → NeverFalls wan → (state : State) (hints : List Closing) → IsReached wan state → hints ≡ reverse (filling wan).closings
    → IsGreatestFit (fits_from wan state.closings state.share) state.share wan.top (hint_of hints (length state.closings) state.share wan.top)
hint-greatest wan never state hints reached right =
    let sound : IsSound wan state = reached-sound wan never state reached in
    let some = greatest-some wan state.closings state.share never sound.last sound.within in
    let next : State = state_at wan state.closings some.0 in
    let there : IsReached wan next = risen-reached wan wan never state next refl reached refl some.1 refl in
    subst (IsGreatestFit (fits_from wan state.closings state.share) state.share wan.top) (sym (risen-hint wan never state next hints there refl some.1 right)) some.1

-- the same of the hint that the code has found
pub hint-read : (wan : Wan) → NeverFalls wan → (state : State) (hints closings : List Closing) (low top hint : ℕ) → IsReached wan state → reverse closings ≡ state.closings → low ≡ state.share → top ≡ wan.top
    → hint ≡ hint_of hints (length closings) low top → hints ≡ reverse (filling wan).closings → IsGreatestFit (fits_from wan state.closings state.share) state.share wan.top hint
hint-read wan never state hints closings low top hint reached closings_are low_is top_is is right =
    let count : length closings ≡ length state.closings = sym (length-reverse closings) ∙ ap length closings_are in
    let same : hint ≡ hint_of hints (length state.closings) state.share wan.top =
    is ∙ ap (λ n. hint_of hints n low top) count ∙ ap (λ l. hint_of hints (length state.closings) l top) low_is ∙ ap (λ t. hint_of hints (length state.closings) state.share t) top_is in
    subst (IsGreatestFit (fits_from wan state.closings state.share) state.share wan.top) (sym same) (hint-greatest wan never state hints reached right)

-- the same over equal parts
pub last_fit-along : (wan wan' : Wan) (closings closings' : List Closing) (link low low' high share : ℕ) → wan' ≡ wan → closings' ≡ closings → low' ≡ low
    → IsLastFit wan' closings' link low' high share → IsLastFit wan closings link low high share
last_fit-along wan wan' closings closings' link low low' high share e f h is =
    subst (λ w. IsLastFit w closings link low high share) e
    (subst (λ cs. IsLastFit wan' cs link low high share) f
    (subst (λ l. IsLastFit wan' closings' link l high share) h is))
