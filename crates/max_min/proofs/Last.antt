-- Last-path-group law, and the pushing-out law of the final amounts.
use Rattle.std.proofs.Common.{◌≡◌, ℕ, suc, ◌+◌, ◌-◌, ◌<◌, ◌≤◌, List, [], ◌∷◌, ◌++◌, length, Some, None, true, refl, sym, ◌∙◌, ap, subst, ◌⊎◌, inl, inr, arith, slice_index, slice_index_or, eq-eqb}
use Rattle.std.proofs.lemmas.Bool.{cases_lt}
use Rattle.bwe_specs.specs.declared.network.Closing.{Closing}
use Rattle.bwe_specs.specs.Paths.{path_group_at, path_group_count, link_load, uses}
use Rattle.bwe_specs.specs.Filling.{Wan, filling, current_path_group_of, is_at, growth, group_amount, group_stop, closed_by, stop_share}
use Rattle.bwe_specs.specs.RightClosings.{amounts_at, AreRight}
use Rattle.bwe_specs.specs.Values.{NeverFalls}
use Rattle.bwe_specs.specs.Allocation.{group_line}
use Rattle.bwe_specs.proofs.Bounds.{sum_below-term}
use Rattle.bwe_specs.proofs.Certificates.{filling-amounts}
use Rattle.bwe_specs.proofs.Growth.{value-mono, growth-on, amounts_at-grown_amounts}
use Rattle.bwe_specs.proofs.StopShares.{filling-amount}
use Rattle.table_laws.specs.Growing.{StandsIn}
use Rattle.table_laws.proofs.Closings.{stop-at}
use Rattle.table_laws.proofs.Wasted.{right}
use Rattle.max_min.specs.MaxMin.{AreShares, HasNoMore, IsStoppedOn, IsUsedLast, rests_at}
use Rattle.max_min.proofs.Pushed.{pushed-out}
use Rattle.max_min.proofs.Stops.{stop-after, stop-stays, stop-le, none-later, amount-stays, final-amount, stopped-by, current-unused, over-stays, one-before}

-- a lower value is that of a lower share
share-less : (wan : Wan) → NeverFalls wan → (group s t : ℕ) → s ≤ wan.top → wan.value group s < wan.value group t → s < t
share-less wan never group s t within less =
    elim (cases_lt s t) [ inl below ↦ below | inr above ↦ absurd (omega (arith, value-mono wan never group t s above within)) ]

module _ (wan : Wan) (never : NeverFalls wan) (starts : (group : ℕ) → wan.value group 0 ≡ 0) where
  abbrev stop : ℕ → ℕ
  stop group = group_stop wan (filling wan) group

  -- the share at which a group over a closing's link would stand with one share more there: it
  -- stopped before, or it stops there
  abbrev IsNext : ℕ → Closing → ℕ → Type 0
  IsNext other closing next = ((stop other ≡ next) × (next ≤ closing.share)) ⊎ ((stop other ≡ closing.share) × (next ≡ suc closing.share))

  -- who stopped on a path group stopped at the share of the closing that took it
  stop-on : (group place : ℕ) (on : IsStoppedOn wan (filling wan).closings group place) → stop group ≡ on.closing.share
  stop-on group place on =
      ap (λ closings. stop_share (slice_index_or wan.groups group []) closings wan.top) on.stands.stands
      ∙ stop-at wan on.stands.later on.closing on.earlier group place wan.top on.before on.after

  -- who stopped before a closing has its stop share by then
  stop-before : (other : ℕ) (later : List Closing) (closing : Closing) (earlier : List Closing) → (filling wan).closings ≡ later ++ closing ∷ earlier
      → current_path_group_of wan (closing ∷ earlier) other ≡ None → stop other ≤ closing.share
  stop-before other later closing earlier stands none =
      let so_far = right wan never later closing earlier stands in
      let is : stop other ≡ stop_share (slice_index_or wan.groups other []) earlier closing.share =
      ap (λ closings. stop_share (slice_index_or wan.groups other []) closings wan.top) stands
      ∙ stop-stays (slice_index_or wan.groups other []) later closing earlier wan.top wan.top none
      ∙ stop-after (slice_index_or wan.groups other []) closing earlier wan.top none in
      omega (arith, is, stop-le wan (slice_index_or wan.groups other []) earlier closing.share so_far.0 so_far.1.share_keeps)

  -- what is known of who has less than at the next share
  no-more : (shares : ℕ → ℕ) (group other place : ℕ) (closing : Closing) (next : ℕ) → stop group ≡ closing.share → closing.share < wan.top
      → stop group < shares group → other < length wan.groups → place < path_group_count wan.groups other
      → uses (path_group_at wan.groups other place) closing.link ≡ true → shares other ≤ wan.top
      → wan.value other (shares other) < wan.value other next → IsNext other closing next
      → HasNoMore wan shares group other closing.link (group_line wan (filling wan) group) (group_line wan (filling wan) other)
  no-more shares group other place closing next here below_top more there lt used within less (inl before) =
      let lower : shares other < stop other = omega (arith, share-less wan never other (shares other) next within less, before.0) in
      let has : wan.value other (shares other) < wan.value other (stop other) = subst (λ n. wan.value other (shares other) < wan.value other n) (sym before.0) less in
      record {
        there = there;
        another = λ same. absurd (let it : stop group < shares other = subst (λ k. stop group < shares k) (sym same) more in omega (arith, it, lower, here, before.0, before.1));
        over = record { place = place; there = lt; used = used };
        no_later = omega (arith, here, before.0, before.1);
        no_more = omega (arith, lower);
        below_next = omega (arith, has, never.next other (stop other) (omega (arith, before.0, before.1, below_top)));
        lower = λ earlier_stop. lower;
        less = λ earlier_stop. omega (arith, has, filling-amount wan never other (starts other) (omega (arith, lt)));
      }
  no-more shares group other place closing next here below_top more there lt used within less (inr meets) =
      let no_more : shares other ≤ stop other = omega (arith, share-less wan never other (shares other) next within less, meets.0, meets.1) in
      let not_before : stop other < stop group → ⊥ = λ before. omega (arith, before, here, meets.0) in
      record {
        there = there;
        another = λ same. absurd (let it : stop group < shares other = subst (λ k. stop group < shares k) (sym same) more in omega (arith, it, no_more, here, meets.0));
        over = record { place = place; there = lt; used = used };
        no_later = omega (arith, here, meets.0);
        no_more = no_more;
        below_next = subst (λ n. wan.value other (shares other) < wan.value other n) (meets.1 ∙ ap suc (sym meets.0)) less;
        lower = λ before. absurd (not_before before);
        less = λ before. absurd (not_before before);
      }

  -- a rest below what a path group would have is that of a value below the group's
  rest-less : (value total own more : ℕ) → own ≤ total → value - (total - own) < own + more → value < total + more
  rest-less value total own more within less = omega arith

  module _ (shares : ℕ → ℕ) (group other place : ℕ) (there : other < length wan.groups) (lt : place < path_group_count wan.groups other) where
    abbrev total : ℕ
    total = group_amount wan (filling wan).amounts other

    abbrev own : ℕ
    own = (filling wan).amounts other place

    own-within : own ≤ total
    own-within = sum_below-term (path_group_count wan.groups other) place ((filling wan).amounts other) lt

    total-is : total ≡ wan.value other (stop other)
    total-is = filling-amount wan never other (starts other) (omega (arith, lt))

    -- who stops there would have grown by one share
    stops-less : (later : List Closing) (closing : Closing) (earlier : List Closing) → (filling wan).closings ≡ later ++ closing ∷ earlier
        → current_path_group_of wan earlier other ≡ Some place → current_path_group_of wan (closing ∷ earlier) other ≡ None → stop other ≡ closing.share
        → rests_at wan (filling wan).amounts shares other place < amounts_at wan earlier (suc closing.share) other place
        → wan.value other (shares other) < wan.value other (suc closing.share)
    unfolding is_at
    stops-less later closing earlier stands before after is less =
        let so_far = right wan never later closing earlier stands in
        let s : ℕ = closing.share in
        let kept : own ≡ amounts_at wan earlier s other place = final-amount wan other never later closing earlier place stands after in
        let on : is_at (current_path_group_of wan earlier other) place ≡ true = ap (λ o. is_at o place) before ∙ eq-eqb place place refl in
        let grown : amounts_at wan earlier (suc s) other place ≡ amounts_at wan earlier s other place + growth wan earlier s (suc s) other place =
        sym (ap (λ amounts. amounts other place) (amounts_at-grown_amounts wan never earlier s (suc s) so_far.1.share_keeps (omega arith) so_far.1.below_top)) in
        let rises : wan.value other s ≤ wan.value other (suc s) = never.next other s so_far.1.below_top in
        let more : growth wan earlier s (suc s) other place ≡ wan.value other (suc s) - wan.value other s = growth-on wan earlier s (suc s) other place on in
        let is_total : total ≡ wan.value other s = total-is ∙ ap (wan.value other) is in
        let so : wan.value other (shares other) < total + (wan.value other (suc s) - wan.value other s) =
        rest-less (wan.value other (shares other)) total own (wan.value other (suc s) - wan.value other s) own-within (omega (arith, less, grown, kept, more)) in
        omega (arith, so, is_total, rises)

    -- who stopped before would have had what it has
    stopped-less : (closing : Closing) (earlier : List Closing) (on : IsStoppedOn wan (filling wan).closings other place) → StandsIn earlier on.closing on.earlier
        → rests_at wan (filling wan).amounts shares other place < amounts_at wan earlier (suc closing.share) other place
        → wan.value other (shares other) < wan.value other (stop other)
    stopped-less closing earlier on before less =
        let kept : own ≡ amounts_at wan on.earlier on.closing.share other place = final-amount wan other never on.stands.later on.closing on.earlier place on.stands.stands on.after in
        let then : amounts_at wan earlier (suc closing.share) other place ≡ amounts_at wan on.earlier on.closing.share other place =
        ap (λ closings. amounts_at wan closings (suc closing.share) other place) before.stands
        ∙ amount-stays wan other before.later on.closing on.earlier (suc closing.share) place on.after in
        let so : wan.value other (shares other) < total + 0 = rest-less (wan.value other (shares other)) total own 0 own-within (omega (arith, less, then, kept)) in
        omega (arith, so, total-is)

    other-less : (closing : Closing) (earlier : List Closing) → StandsIn (filling wan).closings closing earlier → stop group ≡ closing.share → closing.share < wan.top → stop group < shares group
        → IsStoppedOn wan (filling wan).closings other place → uses (path_group_at wan.groups other place) closing.link ≡ true → shares other ≤ wan.top
        → rests_at wan (filling wan).amounts shares other place < amounts_at wan earlier (suc closing.share) other place
        → HasNoMore wan shares group other closing.link (group_line wan (filling wan) group) (group_line wan (filling wan) other)
    other-less closing earlier stands here below_top more on used within less =
        elim (one-before stands.later closing earlier on.stands.later on.closing on.earlier (sym stands.stands ∙ on.stands.stands)) [
          | inl same ↦
              let before : current_path_group_of wan earlier other ≡ Some place = ap (λ closings. current_path_group_of wan closings other) same.1 ∙ on.before in
              let after : current_path_group_of wan (closing ∷ earlier) other ≡ None =
              ap (λ c. current_path_group_of wan (c ∷ earlier) other) same.0 ∙ ap (λ closings. current_path_group_of wan (on.closing ∷ closings) other) same.1 ∙ on.after in
              let is : stop other ≡ closing.share = stop-on other place on ∙ ap (λ (c : Closing). c.share) (sym same.0) in
              no-more shares group other place closing (suc closing.share) here below_top more there lt used within
              (stops-less stands.later closing earlier stands.stands before after is less) (inr (is, refl))
          | inr (inl before) ↦
              let none : current_path_group_of wan (closing ∷ earlier) other ≡ None =
              ap (λ closings. current_path_group_of wan (closing ∷ closings) other) before.stands ∙ none-later wan other (closing ∷ before.later) on.closing on.earlier on.after in
              no-more shares group other place closing (stop other) here below_top more there lt used within
              (stopped-less closing earlier on before less) (inl (refl, stop-before other stands.later closing earlier stands.stands none))
          | inr (inr after) ↦
              absurd (current-unused wan other place after.later closing earlier (ap (λ closings. current_path_group_of wan closings other) (sym after.stands) ∙ on.before) used)
        ]

  -- Last-path-group law
  pub last-path-group : (link : ℕ) → IsUsedLast wan (filling wan).closings link → (shares : ℕ → ℕ) → AreShares wan shares
      → link_load wan.groups (rests_at wan (filling wan).amounts shares) link ≤ slice_index wan.capacities link
      → (group place : ℕ) → IsStoppedOn wan (filling wan).closings group place → closed_by (path_group_at wan.groups group place) (filling wan).closings ≡ Some link
      → group_stop wan (filling wan) group < shares group
      → (other : ℕ) × HasNoMore wan shares group other link (group_line wan (filling wan) group) (group_line wan (filling wan) other)
  last-path-group link last shares within fits group place on named more =
      let closing : Closing = on.closing in
      let earlier : List Closing = on.earlier in
      let so_far : AreRight wan (closing ∷ earlier) = right wan never on.stands.later closing earlier on.stands.stands in
      let both : Some closing.link ≡ Some link = sym (stopped-by wan (filling wan).closings group place on) ∙ named in
      let is : closing.link ≡ link = cc in
      let pushed = pushed-out wan never closing earlier on.stands (rests_at wan (filling wan).amounts shares)
      (subst (λ l. link_load wan.groups (rests_at wan (filling wan).amounts shares) l ≤ slice_index wan.capacities l) (sym is) fits) in
      let other : ℕ = pushed.0 in
      let other_on : IsStoppedOn wan (filling wan).closings other pushed.1 =
      last other pushed.1 pushed.2 pushed.3 (subst (λ l. uses (path_group_at wan.groups other pushed.1) l ≡ true) is pushed.4) in (
        other,
        subst (λ l. HasNoMore wan shares group other l (group_line wan (filling wan) group) (group_line wan (filling wan) other)) is
            (other-less shares group other pushed.1 pushed.2 pushed.3 closing earlier on.stands (stop-on group place on) so_far.1.below_top more other_on pushed.4 (within other pushed.2) pushed.5),
      )

-- Pushing-out law
pub pushing-out : (wan : Wan) → NeverFalls wan → (closing : Closing) (earlier : List Closing) → StandsIn (filling wan).closings closing earlier
    → (other : ℕ → ℕ → ℕ) → link_load wan.groups other closing.link ≤ slice_index wan.capacities closing.link
    → (group : ℕ) × (place : ℕ) × (group < length wan.groups) × (place < path_group_count wan.groups group)
    × (uses (path_group_at wan.groups group place) closing.link ≡ true)
    × (other group place < (filling wan).amounts group place + growth wan earlier closing.share (suc closing.share) group place)
pushing-out wan never closing earlier stands other fits =
    let pushed = pushed-out wan never closing earlier stands other fits in
    let group : ℕ = pushed.0 in
    let place : ℕ = pushed.1 in
    let s : ℕ = closing.share in
    let so_far = right wan never stands.later closing earlier stands.stands in
    let kept : (filling wan).amounts group place ≡ amounts_at wan earlier s group place =
    ap (λ amounts. amounts group place) (filling-amounts wan never) ∙ ap (λ closings. amounts_at wan closings wan.top group place) stands.stands
    ∙ over-stays wan group place stands.later closing earlier wan.top pushed.4 in
    let grown : amounts_at wan earlier (suc s) group place ≡ amounts_at wan earlier s group place + growth wan earlier s (suc s) group place =
    sym (ap (λ amounts. amounts group place) (amounts_at-grown_amounts wan never earlier s (suc s) so_far.1.share_keeps (omega arith) so_far.1.below_top)) in
    (group, place, pushed.2, pushed.3, pushed.4, omega (arith, pushed.5, grown, kept))
