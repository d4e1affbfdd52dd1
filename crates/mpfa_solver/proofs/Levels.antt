-- The test of a search never turns back to true, and where a search ends the unit steps meet the next closing.
use Rattle.std.proofs.Common.{◌≡◌, ℕ, suc, ◌<◌, ◌≤◌, true, false, List, Option, Some, None, is_none, refl, sym, ◌∙◌, ap, subst, arith, inl, inr, ◌⊎◌, le-leb}
use Rattle.std.proofs.lemmas.Bool.{cases_lt, lt-leb}
use Rattle.mono_search.specs.Level.{Falls, IsGreatestFit}
use Rattle.bwe_specs.specs.declared.network.Closing.{Closing}
use Rattle.bwe_specs.specs.Filling.{Wan}
use Rattle.bwe_specs.specs.RightClosings.{last_share, over_at}
use Rattle.bwe_specs.specs.Values.{NeverFalls}
use Rattle.bwe_specs.proofs.Jumps.{fits-below}
use Rattle.mpfa_solver.specs.Search.{fits_from}

none-true : (o : Option ℕ) → is_none o ≡ true → o ≡ None
none-true None h = refl
none-true (Some link) h = absurd (cc)

none-false : (o : Option ℕ) → is_none o ≡ false → (link : ℕ) × (o ≡ Some link)
none-false None h = absurd (cc)
none-false (Some link) h = (link, refl)

module _ (wan : Wan) (closings : List Closing) (low : ℕ) where
  -- what the test says at the lowest share, and above the top
  pub fits-low : (share : ℕ) → share ≤ low → fits_from wan closings low share ≡ true
  fits-low share le = rw (le-leb share low le)

  pub fits-past : (share : ℕ) → low < share → wan.top < share → fits_from wan closings low share ≡ false
  fits-past share above past = rw (lt-leb share low above, lt-leb share wan.top past)

  -- between them it says whether no link is over
  pub fits-between : (share : ℕ) → low < share → share ≤ wan.top → fits_from wan closings low share ≡ is_none (over_at wan closings share)
  fits-between share above within = rw (lt-leb share low above, le-leb share wan.top within)

  -- a share that fits is one of the three
  pub fits-true : (share : ℕ) → fits_from wan closings low share ≡ true → (share ≤ low) ⊎ ((share ≤ wan.top) × (over_at wan closings share ≡ None))
  fits-true share h =
      elim (cases_lt low share) [
        | inr le ↦ inl le
        | inl above ↦ elim (cases_lt wan.top share) [
          | inl past ↦ let no : fits_from wan closings low share ≡ false = fits-past share above past in absurd (cc)
          | inr within ↦ inr (within, none-true (over_at wan closings share) (sym (fits-between share above within) ∙ h))
        ]
      ]

  -- under fixed closings, what fits never turns back
  pub fits-falls : NeverFalls wan → last_share closings ≤ low → Falls (fits_from wan closings low)
  fits-falls never last = record { lower = lower } where
    lower : (share higher : ℕ) → share ≤ higher → fits_from wan closings low higher ≡ true → fits_from wan closings low share ≡ true
    lower share higher order h =
        elim (fits-true higher h) [
          | inl le ↦ fits-low share (omega arith)
          | inr fit ↦ elim (cases_lt low share) [
            | inr le ↦ fits-low share le
            | inl above ↦
                fits-between share above (omega (arith, fit.0))
                ∙ ap is_none (fits-below wan never closings share higher (omega arith) order fit.0 fit.1)
          ]
        ]

  -- where the search ends, every link fits ..
  pub fits-found : (share : ℕ) → IsGreatestFit (fits_from wan closings low) low wan.top share → over_at wan closings low ≡ None → over_at wan closings share ≡ None
  fits-found share found here =
      elim (fits-true share found.fit) [
        | inl le ↦ let same : share ≡ low = omega (arith, found.from) in subst (λ s. over_at wan closings s ≡ None) (sym same) here
        | inr fit ↦ fit.1
      ]

  -- .. and below the top a link is over at the next share
  pub over-next : (share : ℕ) → IsGreatestFit (fits_from wan closings low) low wan.top share → share < wan.top → (link : ℕ) × (over_at wan closings (suc share) ≡ Some link)
  over-next share found below =
      none-false (over_at wan closings (suc share))
      (sym (fits-between (suc share) (omega (arith, found.from)) below) ∙ found.greatest (suc share) (omega arith) below)
