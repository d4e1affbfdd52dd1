-- Each cause that the code finds is that of the definitions.
use Rattle.std.proofs.Common.{◌≡◌, ◌↔◌, ℕ, suc, ◌+◌, ◌<◌, ◌≤◌, Bool, true, false, List, [], ◌∷◌, append-nil, subst, length, reverse, drop, Some, None, sym, ◌∙◌, ap, ap₂, nat_eq, nat_lt, nat_le, ◌==◌, drop-cons, drop_of_length-le, add-one, slice_index_or}
use Rattle.bwe_specs.specs.declared.network.Closing.{Closing}
use Rattle.bwe_specs.specs.declared.network.Cause.{Cause}
use Rattle.bwe_specs.specs.declared.network.Cause.TheVariants.{NoSuchLink, Reclosed, ShareFalls, ShareAtTop, OverBefore}
use Rattle.bwe_specs.specs.declared.network.Verdict.{Verdict}
use Rattle.bwe_specs.specs.declared.network.Verdict.TheVariants.{Right, Wrong}
use Rattle.std.specs.List.{list_any}
use Rattle.bwe_specs.specs.Paths.{is_over, lowest_over}
use Rattle.bwe_specs.specs.Filling.{Wan, closed_links, filling}
use Rattle.bwe_specs.specs.RightClosings.{last_share, amounts_at, over_at, cause_after, share_cause, next_cause, top_verdict, verdict_or, verdict_after, verdict, AreRightToTop}
use Rattle.bwe_specs.specs.Values.{NeverFalls}
use Rattle.allocation_laws.proofs.Verdicts.{verdict-right_iff, right-verdict, verdict-right}
use Rattle.bwe_specs.proofs.Bounds.{none-lowest, some-lowest}
use Rattle.mpfa_fill.specs.LastFit.{is_over_at}
use Rattle.path_groups.proofs.Paths.{any_map}
use Rattle.mpfa_fill.proofs.Places.{any-reverse}

-- a link was closed where one of the closings names it, in whatever order they stand
pub closed-found : (items earlier : List Closing) (link : ℕ) (found : Bool) → reverse items ≡ earlier → found ≡ list_any (λ closing. link == closing.link) items
    → list_any (nat_eq link) (closed_links earlier) ≡ found
closed-found items earlier link found order is =
    ap (λ cs. list_any (nat_eq link) (closed_links cs)) (sym order)
    ∙ any_map (nat_eq link) (λ closing. closing.link) (reverse items) ∙ any-reverse (λ closing. nat_eq link closing.link) items ∙ sym is

-- whether a link is over, at equal moments
pub named-along : (wan wan' : Wan) (closings closings' : List Closing) (share share' link : ℕ) → wan ≡ wan' → closings ≡ closings' → share ≡ share'
    → is_over wan.groups wan.capacities (amounts_at wan closings share) link ≡ is_over wan'.groups wan'.capacities (amounts_at wan' closings' share') link
named-along wan wan' closings closings' share share' link e f h =
    ap (λ (w : Wan). is_over w.groups w.capacities (amounts_at w closings share) link) e
    ∙ ap₂ (λ cs s. is_over wan'.groups wan'.capacities (amounts_at wan' cs s) link) f h

-- what is the verdict is Right exactly where the closings are the filling's
pub right-said : (wan : Wan) → NeverFalls wan → (closings : List Closing) (said : Verdict) → said ≡ verdict wan closings
    → (said ≡ Right) ↔ (closings ≡ reverse (filling wan).closings)
right-said wan never closings said is =
    let iff = verdict-right_iff wan never closings in
    (λ right. iff.0 (sym is ∙ right), λ same. is ∙ iff.1 same)

module _ (wan : Wan) (earlier : List Closing) (c : Closing) where
  pub cause-no_link : nat_le (length wan.capacities) c.link ≡ true → Some NoSuchLink ≡ cause_after wan earlier c
  unfolding cause_after
  cause-no_link past = rw past

  pub cause-reclosed : nat_le (length wan.capacities) c.link ≡ false → list_any (nat_eq c.link) (closed_links earlier) ≡ true → Some Reclosed ≡ cause_after wan earlier c
  unfolding cause_after
  cause-reclosed link closed = rw (link, closed)

  module _ (link : nat_le (length wan.capacities) c.link ≡ false) (open_link : list_any (nat_eq c.link) (closed_links earlier) ≡ false) where
    pub cause-falls : nat_lt c.share (last_share earlier) ≡ true → Some ShareFalls ≡ cause_after wan earlier c
    unfolding cause_after
    cause-falls falls = rw (link, open_link, falls)

    pub cause-at_top : nat_lt c.share (last_share earlier) ≡ false → nat_le wan.top c.share ≡ true → Some ShareAtTop ≡ cause_after wan earlier c
    unfolding cause_after
    cause-at_top keeps at_top = rw (link, open_link, keeps, at_top)

    pub cause-over_before : (over : ℕ) → nat_lt c.share (last_share earlier) ≡ false → nat_le wan.top c.share ≡ false → over_at wan earlier c.share ≡ Some over → Some (OverBefore over) ≡ cause_after wan earlier c
    unfolding cause_after share_cause
    cause-over_before over keeps below before = rw (link, open_link, keeps, below, before)

    pub cause-next : nat_lt c.share (last_share earlier) ≡ false → nat_le wan.top c.share ≡ false → over_at wan earlier c.share ≡ None
        → next_cause c.link (is_over wan.groups wan.capacities (amounts_at wan earlier (suc c.share)) c.link) (over_at wan earlier (suc c.share)) ≡ cause_after wan earlier c
    unfolding cause_after share_cause
    cause-next keeps below fits = rw (link, open_link, keeps, below, fits)

module _ (wan : Wan) (earlier closings : List Closing) (place : ℕ) (d : Closing) where
  -- a cause at this closing is the verdict on the rest
  pub verdict-here : (cause : Cause) → place < length closings → cause_after wan earlier (slice_index_or closings place d) ≡ Some cause
      → Wrong place cause ≡ verdict_after wan earlier (drop place closings) place
  unfolding verdict_after verdict_or
  verdict-here cause lt is =
      sym (ap (λ rest. verdict_after wan earlier rest place) (drop-cons closings place d lt)
      ∙ ap (λ o. verdict_or o place (verdict_after wan (slice_index_or closings place d ∷ earlier) (drop (suc place) closings) (suc place))) is)

  -- where there is none, the verdict comes later
  pub verdict-next : place < length closings → cause_after wan earlier (slice_index_or closings place d) ≡ None
      → verdict_after wan (slice_index_or closings place d ∷ earlier) (drop (place + 1) closings) (place + 1) ≡ verdict_after wan earlier (drop place closings) place
  unfolding verdict_after verdict_or
  verdict-next lt is =
      ap (λ k. verdict_after wan (slice_index_or closings place d ∷ earlier) (drop k closings) k) (add-one place)
      ∙ sym (ap (λ rest. verdict_after wan earlier rest place) (drop-cons closings place d lt)
      ∙ ap (λ o. verdict_or o place (verdict_after wan (slice_index_or closings place d ∷ earlier) (drop (suc place) closings) (suc place))) is)

  -- after the last closing the verdict goes by what is over at the top
  pub verdict-end : length closings ≤ place → top_verdict (over_at wan earlier wan.top) place ≡ verdict_after wan earlier (drop place closings) place
  unfolding verdict_after
  verdict-end le = ap (λ rest. verdict_after wan earlier rest place) (sym (drop_of_length-le closings le))

-- closings that are right to the top have the verdict Right
pub right-is : (wan : Wan) (closings : List Closing) → AreRightToTop wan (reverse closings) → Right ≡ verdict wan closings
right-is wan closings right = sym (right-verdict wan [] closings 0 (subst (AreRightToTop wan) (sym (append-nil (reverse closings))) right))

-- and others have not
pub not-right : (wan : Wan) (closings : List Closing) (said : Verdict) → said ≡ verdict wan closings → (AreRightToTop wan (reverse closings) → ⊥) → said ≡ Right → ⊥
not-right wan closings said is wrong right =
    wrong (subst (AreRightToTop wan) (append-nil (reverse closings)) (verdict-right wan [] closings 0 tt (sym is ∙ right)))

-- the lowest link that is over at a share, and where none is
pub lowest-at : (wan : Wan) (closings : List Closing) (share link : ℕ) → link < length wan.capacities → is_over_at wan closings share link ≡ true → ((k : ℕ) → k < link → is_over_at wan closings share k ≡ false) → over_at wan closings share ≡ Some link
unfolding lowest_over
lowest-at wan closings share link lt over lower =
    some-lowest (length wan.capacities) (is_over wan.groups wan.capacities (amounts_at wan closings share)) link (record { below = lt; passes = over; none_lower = lower })

pub none-at : (wan : Wan) (closings : List Closing) (share : ℕ) → ((k : ℕ) → k < length wan.capacities → is_over_at wan closings share k ≡ false) → over_at wan closings share ≡ None
unfolding lowest_over
none-at wan closings share fits = none-lowest (length wan.capacities) (is_over wan.groups wan.capacities (amounts_at wan closings share)) fits
