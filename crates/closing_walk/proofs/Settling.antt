-- What a look at a link settles.
use Rattle.std.proofs.Common.{◌≡◌, ℕ, suc, ◌<◌, ◌≤◌, true, false, List, ◌∷◌, length, refl, sym, ◌∙◌, arith, subst, inl, inr, set}
use Rattle.std.proofs.lemmas.Bool.{cases_eq}
use Rattle.std.proofs.lemmas.List.{get_or-set_same, get_or-set_other, length-set}
use Rattle.bwe_specs.specs.declared.network.Closing.{Closing}
use Rattle.bwe_specs.specs.Filling.{Wan}
use Rattle.bwe_specs.specs.RightClosings.{last_share, AreRight}
use Rattle.bwe_specs.specs.Values.{NeverFalls}
use Rattle.mpfa_fill.specs.LastFit.{is_over_at}
use Rattle.closing_walk.specs.Walk.{closing_at, need, HasFit, Owes, Fits, Reaches, IsNeeded, IsHigh, from_at, AreOwing, Settles, IsAt}
use Rattle.closing_walk.proofs.Rights.{link-fits-below, need-from, right-needs}

module _ (wan : Wan) (never : NeverFalls wan) (closings list : List Closing) (at : ℕ) (is : IsAt wan closings list at) where
  -- a link that fits at a share that reaches all that it needs has fit up to this closing
  pub has-fit : (link from share : ℕ) → Owes wan closings list at link from → from ≤ at → Reaches list from (suc at) link share → share ≤ suc (closing_at list at).share
      → is_over_at wan closings share link ≡ false → HasFit wan (closing_at list at ∷ closings) link
  has-fit link from share owes le reaches upto fits =
      let needed : need (closing_at list at) link ≤ share = reaches at le (omega arith) in
      let last : last_share closings ≤ share = omega (arith, is.keeps, need-from (closing_at list at) link, needed) in
      let within : share ≤ wan.top = omega (arith, upto, is.below) in (
        owes share last within (λ place from_le lt. reaches place from_le (omega (arith, lt))) fits,
        link-fits-below wan never closings (need (closing_at list at) link) share link (omega (arith, is.keeps, need-from (closing_at list at) link)) needed within fits,
      )

  -- and one that is over at a share that it needs shows that the closings are not right
  pub no-fit : (link from share : ℕ) → link < length wan.capacities → Fits wan closings list at link from → IsNeeded list from at link share → (closing_at list at).share ≤ share
      → is_over_at wan closings share link ≡ true → AreRight wan (closing_at list at ∷ closings) → ⊥
  no-fit link from share lt fits needed above over right =
      let place : ℕ = needed.0 in
      let here : is_over_at wan closings (need (closing_at list place) link) link ≡ false = elim (cases_eq place at) [
        | inl e ↦ subst (λ k. is_over_at wan closings (need (closing_at list k) link) link ≡ false) (sym e) (right-needs wan closings (closing_at list at) link lt right.1)
        | inr other ↦ fits right.0 place needed.1 (omega (arith, needed.2, other)) (omega (arith, is.keeps, above, needed.3))
      ] in
      let fit : is_over_at wan closings share link ≡ false = subst (λ s. is_over_at wan closings s link ≡ false) needed.3 here in
      absurd (cc)

  -- so the place of the link may go past the closing
  pub settles-one : (froms : List ℕ) (link : ℕ) → link < length froms → AreOwing wan closings list at froms → HasFit wan (closing_at list at ∷ closings) link → (next : ℕ) → next ≡ suc at
      → Settles wan closings list at froms (set froms link next)
  settles-one froms link lt owing fit next e = record {
    owing = record {
      each_link = length-set froms link next ∙ owing.each_link;
      upto = λ other. elim (cases_eq other link) [
        | inl same ↦ subst (λ k. from_at (set froms link next) k ≤ suc at) (sym same) (omega (arith, get_or-set_same froms link next 0 lt, e))
        | inr apart ↦ omega (arith, get_or-set_other froms link other next 0 apart, owing.upto other)
      ];
      owes = λ other within le. elim (cases_eq other link) [
        | inl same ↦ absurd (omega (arith, subst (λ k. from_at (set froms link next) k ≤ at) same le, get_or-set_same froms link next 0 lt, e))
        | inr apart ↦ let kept : from_at (set froms link next) other ≡ from_at froms other = get_or-set_other froms link other next 0 apart in
            subst (Owes wan closings list at other) (sym kept) (owing.owes other within (omega (arith, kept, le)))
      ];
      fits = λ other within le. elim (cases_eq other link) [
        | inl same ↦ absurd (omega (arith, subst (λ k. from_at (set froms link next) k ≤ at) same le, get_or-set_same froms link next 0 lt, e))
        | inr apart ↦ let kept : from_at (set froms link next) other ≡ from_at froms other = get_or-set_other froms link other next 0 apart in
            subst (Fits wan closings list at other) (sym kept) (owing.fits other within (omega (arith, kept, le)))
      ];
      settled = λ other within past. elim (cases_eq other link) [
        | inl same ↦ subst (HasFit wan (closing_at list at ∷ closings)) (sym same) fit
        | inr apart ↦ owing.settled other within (omega (arith, get_or-set_other froms link other next 0 apart, past))
      ];
    };
    same = λ other le. elim (cases_eq other link) [
      | inl same ↦ absurd (omega (arith, subst (λ k. from_at (set froms link next) k ≤ at) same le, get_or-set_same froms link next 0 lt, e))
      | inr apart ↦ get_or-set_other froms link other next 0 apart
    ];
    keeps = λ other past. elim (cases_eq other link) [
      | inl same ↦ subst (λ k. at < from_at (set froms link next) k) (sym same) (omega (arith, get_or-set_same froms link next 0 lt, e))
      | inr apart ↦ omega (arith, get_or-set_other froms link other next 0 apart, past)
    ];
  }

-- nothing was looked at, or one look after the other
pub settles-none : (wan : Wan) (closings list : List Closing) (at : ℕ) (froms : List ℕ) → AreOwing wan closings list at froms → Settles wan closings list at froms froms
settles-none wan closings list at froms owing = record { owing = owing; keeps = λ link past. past; same = λ link le. refl }

pub settles-then : (wan : Wan) (closings list : List Closing) (at : ℕ) (old mid new : List ℕ) → Settles wan closings list at old mid → Settles wan closings list at mid new → Settles wan closings list at old new
settles-then wan closings list at old mid new first second = record {
  owing = second.owing;
  keeps = λ link past. second.keeps link (first.keeps link past);
  same = λ link le. let e = second.same link le in e ∙ first.same link (omega (arith, le, e));
}

-- a link that has fit needs no look, and no more does one whose need was reached
pub past-low : (list : List Closing) (at link from : ℕ) → at < from → from ≤ at → IsHigh list at link from → ⊥
past-low list at link from past le high = absurd (omega (arith, past, le))

pub reached-low : (list : List Closing) (at link from share : ℕ) → Reaches list from (suc at) link share → share ≡ (closing_at list at).share → IsHigh list at link from → ⊥
reached-low list at link from share reaches e high =
    let most = reaches high.0 high.1 (omega (arith, high.2)) in
    absurd (omega (arith, most, e, high.3))
