-- A link to whose path groups no group comes, and that none leaves, has the same load.
use Rattle.std.proofs.Common.{◌≡◌, ℕ, suc, ◌+◌, ◌<◌, ◌≤◌, Bool, true, false, List, [], ◌∷◌, length, replicate, refl, sym, ◌∙◌, ap, arith, le_refl, subst, inl, inr, slice_index}
use Rattle.std.proofs.lemmas.Bool.{cases_eq, cases_lt}
use Rattle.std.proofs.lemmas.List.{length-replicate, get_or-replicate}
use Rattle.std.proofs.Math.ListN.{get_or-eq_default}
use Rattle.bwe_specs.specs.declared.network.Closing.{Closing}
use Rattle.bwe_specs.specs.Paths.{path_group_at, path_group_count, load_on, link_load, uses, is_over}
use Rattle.bwe_specs.specs.Filling.{Wan, current_path_group_of, is_at, growth}
use Rattle.bwe_specs.specs.RightClosings.{last_share, amounts_at, AreRightToTop}
use Rattle.bwe_specs.specs.Values.{NeverFalls}
use Rattle.bwe_specs.proofs.Bounds.{sum_below-mono}
use Rattle.bwe_specs.proofs.Growth.{growth-off, growth-on, amounts_at-grown_amounts, amounts_at-closed}
use Rattle.bwe_specs.proofs.Loads.{load_on-unused, load_on-mono}
use Rattle.mpfa_fill.specs.LastFit.{is_over_at}
use Rattle.closing_walk.specs.Walk.{closing_at, need, Owes, Fits, from_at, AreOwing, IsNamed, StaysOff, StayOff, IsAt, IsWalked}
use Rattle.closing_walk.proofs.Rights.{fits-less, link-fits-below, need-from, need-upto, named-right, top-fits, right-needs}

module _ (wan : Wan) (never : NeverFalls wan) (earlier : List Closing) (closing : Closing) (last : last_share earlier ≤ closing.share) (link share : ℕ) (from : closing.share ≤ share) (upto : share ≤ wan.top) where
  before : (group place : ℕ) → amounts_at wan earlier share group place ≡ amounts_at wan earlier closing.share group place + growth wan earlier closing.share share group place
  before group place = sym (ap (λ x. x group place) (amounts_at-grown_amounts wan never earlier closing.share share last from upto))

  after : (group place : ℕ) → amounts_at wan (closing ∷ earlier) share group place ≡ amounts_at wan earlier closing.share group place + growth wan (closing ∷ earlier) closing.share share group place
  unfolding amounts_at
  after group place = refl

  -- where a group leaves no path group over the link, it puts no less on it ..
  stays-there : (group place : ℕ) → (uses (path_group_at wan.groups group place) link ≡ true → is_at (current_path_group_of wan earlier group) place ≡ true → is_at (current_path_group_of wan (closing ∷ earlier) group) place ≡ true)
      → load_on (path_group_at wan.groups group place) link (amounts_at wan earlier share group place) ≤ load_on (path_group_at wan.groups group place) link (amounts_at wan (closing ∷ earlier) share group place)
  stays-there group place none = go (uses (path_group_at wan.groups group place) link) refl (is_at (current_path_group_of wan earlier group) place) refl where
    go : (used : Bool) → uses (path_group_at wan.groups group place) link ≡ used → (at : Bool) → is_at (current_path_group_of wan earlier group) place ≡ at
        → load_on (path_group_at wan.groups group place) link (amounts_at wan earlier share group place) ≤ load_on (path_group_at wan.groups group place) link (amounts_at wan (closing ∷ earlier) share group place)
    go false unused at e = omega (arith, load_on-unused (path_group_at wan.groups group place) link (amounts_at wan earlier share group place) unused)
    go true used false e = load_on-mono (path_group_at wan.groups group place) link _ _ (omega (arith, before group place, after group place, growth-off wan earlier closing.share share group place e))
    go true used true e = load_on-mono (path_group_at wan.groups group place) link _ _
        (omega (arith, before group place, after group place, growth-on wan earlier closing.share share group place e, growth-on wan (closing ∷ earlier) closing.share share group place (none used e)))

  -- .. and where it comes to none, it puts no more
  falls-there : (group place : ℕ) → (uses (path_group_at wan.groups group place) link ≡ true → is_at (current_path_group_of wan (closing ∷ earlier) group) place ≡ true → is_at (current_path_group_of wan earlier group) place ≡ true)
      → load_on (path_group_at wan.groups group place) link (amounts_at wan (closing ∷ earlier) share group place) ≤ load_on (path_group_at wan.groups group place) link (amounts_at wan earlier share group place)
  falls-there group place none = go (uses (path_group_at wan.groups group place) link) refl (is_at (current_path_group_of wan (closing ∷ earlier) group) place) refl where
    go : (used : Bool) → uses (path_group_at wan.groups group place) link ≡ used → (at : Bool) → is_at (current_path_group_of wan (closing ∷ earlier) group) place ≡ at
        → load_on (path_group_at wan.groups group place) link (amounts_at wan (closing ∷ earlier) share group place) ≤ load_on (path_group_at wan.groups group place) link (amounts_at wan earlier share group place)
    go false unused at e = omega (arith, load_on-unused (path_group_at wan.groups group place) link (amounts_at wan (closing ∷ earlier) share group place) unused)
    go true used false e = load_on-mono (path_group_at wan.groups group place) link _ _ (omega (arith, before group place, after group place, growth-off wan (closing ∷ earlier) closing.share share group place e))
    go true used true e = load_on-mono (path_group_at wan.groups group place) link _ _
        (omega (arith, before group place, after group place, growth-on wan (closing ∷ earlier) closing.share share group place e, growth-on wan earlier closing.share share group place (none used e)))

  -- so a link that fits after the closing fit before it, where no group leaves ..
  pub fits-before : ((group place : ℕ) → group < length wan.groups → uses (path_group_at wan.groups group place) link ≡ true → is_at (current_path_group_of wan earlier group) place ≡ true → is_at (current_path_group_of wan (closing ∷ earlier) group) place ≡ true)
      → is_over_at wan (closing ∷ earlier) share link ≡ false → is_over_at wan earlier share link ≡ false
  unfolding link_load
  fits-before none fits =
      fits-less (slice_index wan.capacities link) _ _
      (sum_below-mono (length wan.groups) _ _ (λ group gl. sum_below-mono (path_group_count wan.groups group) _ _ (λ place pl. stays-there group place (none group place gl))))
      fits

  -- .. and one that fit before it fits after it, where no group comes
  pub fits-after : ((group place : ℕ) → group < length wan.groups → uses (path_group_at wan.groups group place) link ≡ true → is_at (current_path_group_of wan (closing ∷ earlier) group) place ≡ true → is_at (current_path_group_of wan earlier group) place ≡ true)
      → is_over_at wan earlier share link ≡ false → is_over_at wan (closing ∷ earlier) share link ≡ false
  unfolding link_load
  fits-after none fits =
      fits-less (slice_index wan.capacities link) _ _
      (sum_below-mono (length wan.groups) _ _ (λ group gl. sum_below-mono (path_group_count wan.groups group) _ _ (λ place pl. falls-there group place (none group place gl))))
      fits

-- at the share of the closing nothing changes
fits-here : (wan : Wan) (earlier : List Closing) (closing : Closing) (link : ℕ) → is_over_at wan earlier closing.share link ≡ false → is_over_at wan (closing ∷ earlier) closing.share link ≡ false
fits-here wan earlier closing link fits = ap (λ x. is_over wan.groups wan.capacities x link) (sym (amounts_at-closed wan closing earlier)) ∙ fits

-- what a link owes after a closing
module _ (wan : Wan) (never : NeverFalls wan) (earlier list : List Closing) (at : ℕ) (is : IsAt wan earlier list at) where
  abbrev pub here : Closing
  here = closing_at list at

  -- one that no group leaves owes as much, and what it needs there
  owes-on : (link from : ℕ) → from ≤ at → Owes wan earlier list at link from → ((group : ℕ) → group < length wan.groups → StaysOff wan earlier list at link from group)
      → Owes wan (here ∷ earlier) list (suc at) link from
  owes-on link from le owes off share after upto reaches fits =
      let still : is_over_at wan earlier share link ≡ false = fits-before wan never earlier here is.keeps link share after upto (λ group place gl. (off group gl).leaves place) fits in
      let needed : need here link ≤ share = reaches at le (omega arith) in (
        owes share (omega (arith, is.keeps, after)) upto (λ place from_le lt. reaches place from_le (omega (arith, lt))) still,
        link-fits-below wan never earlier (need here link) share link (omega (arith, is.keeps, need-from here link)) needed upto still,
      )

  owes-next : (froms : List ℕ) → AreOwing wan earlier list at froms → StayOff wan earlier list at froms (length wan.groups) → (link : ℕ) → link < length wan.capacities
      → Owes wan (here ∷ earlier) list (suc at) link (from_at froms link)
  owes-next froms owing off link lt = elim (cases_lt at (from_at froms link)) [
    | inl past ↦ λ share after upto reaches fits. owing.settled link lt past
    | inr le ↦ owes-on link (from_at froms link) le (owing.owes link lt le) (λ group gl. off group link gl le)
  ]

  -- and where the closings are right, it fits there too
  fits-on : (link from : ℕ) → link < length wan.capacities → Fits wan earlier list at link from → ((group : ℕ) → group < length wan.groups → StaysOff wan earlier list at link from group)
      → Fits wan (here ∷ earlier) list (suc at) link from
  fits-on link from lt fits off right place from_le before after =
      let share : ℕ = need (closing_at list place) link in
      let upto : share ≤ wan.top = omega (arith, need-upto (closing_at list place) link, is.rise place at (omega (arith, before)) (omega arith), is.below) in
      let old : is_over_at wan earlier share link ≡ false = elim (cases_eq place at) [
        | inl e ↦ subst (λ k. is_over_at wan earlier (need (closing_at list k) link) link ≡ false) (sym e) (right-needs wan earlier here link lt right.1)
        | inr other ↦ fits right.0 place from_le (omega (arith, before, other)) (omega (arith, is.keeps, after))
      ] in
      elim (cases_eq share here.share) [
        | inl e ↦ subst (λ s. is_over_at wan (here ∷ earlier) s link ≡ false) (sym e) (fits-here wan earlier here link (subst (λ s. is_over_at wan earlier s link ≡ false) e old))
        | inr more ↦ fits-after wan never earlier here is.keeps link share after upto
            (λ group p gl. (off group gl).enters (place, from_le, omega (arith, before), omega (arith, after, more)) p) old
      ]

  fits-next : (froms : List ℕ) → AreOwing wan earlier list at froms → StayOff wan earlier list at froms (length wan.groups) → (link : ℕ) → link < length wan.capacities
      → Fits wan (here ∷ earlier) list (suc at) link (from_at froms link)
  fits-next froms owing off link lt = elim (cases_lt at (from_at froms link)) [
    | inl past ↦ λ right place from_le before after. absurd (omega (arith, past, from_le, before))
    | inr le ↦ fits-on link (from_at froms link) lt (owing.fits link lt le) (λ group gl. off group link gl le)
  ]

  -- so the walk has come one closing further
  pub walked-next : (old froms : List ℕ) → IsWalked wan earlier list at old → IsNamed wan earlier here → AreOwing wan earlier list at froms → StayOff wan earlier list at froms (length wan.groups)
      → IsWalked wan (here ∷ earlier) list (suc at) froms
  walked-next old froms walked named owing off = record {
    named = (walked.named, named);
    rise = is.rise;
    last = λ place lt. is.rise place at (omega (arith, lt)) (omega arith);
    below = λ place lt. omega (arith, is.rise place at (omega (arith, lt)) (omega arith), is.below);
    each_link = owing.each_link;
    upto = owing.upto;
    owes = owes-next froms owing off;
    fits = fits-next froms owing off;
  }

-- at a closing that comes next in order, each link owes what it did
pub owing-start : (wan : Wan) (earlier list : List Closing) (at : ℕ) (froms : List ℕ) → IsWalked wan earlier list at froms → AreOwing wan earlier list at froms
owing-start wan earlier list at froms walked = record {
  each_link = walked.each_link;
  upto = λ link. omega (arith, walked.upto link);
  owes = λ link lt le. walked.owes link lt;
  fits = λ link lt le. walked.fits link lt;
  settled = λ link lt past. absurd (omega (arith, past, walked.upto link));
}

-- a closing in order comes next
pub is-next : (wan : Wan) (earlier list : List Closing) (at : ℕ) (froms : List ℕ) → IsWalked wan earlier list at froms → at < length list → last_share earlier ≤ (closing_at list at).share → (closing_at list at).share < wan.top
    → IsAt wan earlier list at
is-next wan earlier list at froms walked lt keeps below = record {
  in_range = lt;
  rise = λ place later le before. elim (cases_lt later at) [
    | inl inside ↦ walked.rise place later le inside
    | inr past ↦
        let e : later ≡ at = omega (arith, before, past) in
        subst (λ k. (closing_at list place).share ≤ (closing_at list k).share) (sym e)
        (elim (cases_lt place at) [
          | inl inside ↦ omega (arith, walked.last place inside, keeps)
          | inr there ↦ let f : place ≡ at = omega (arith, there, le, e) in subst (λ k. (closing_at list k).share ≤ (closing_at list at).share) (sym f) (le_refl (closing_at list at).share)
        ])
  ];
  keeps = keeps;
  below = below;
}

-- at the end, where each link fits at the top, the closings are right
pub walked-right : (wan : Wan) → NeverFalls wan → (closings list : List Closing) (at : ℕ) (froms : List ℕ) → IsWalked wan closings list at froms → last_share closings ≤ wan.top
    → ((link : ℕ) → link < length wan.capacities → is_over_at wan closings wan.top link ≡ false) → AreRightToTop wan closings
walked-right wan never closings list at froms walked last fit = (
  named-right wan never closings walked.named (λ link lt.
      walked.owes link lt wan.top last (le_refl wan.top) (λ place from inside. omega (arith, need-upto (closing_at list place) link, walked.below place inside)) (fit link lt)),
  top-fits wan never closings fit,
)

-- nothing is walked, and no link owes anything
pub walked-start : (wan : Wan) (closings list : List Closing) (froms : List ℕ) → closings ≡ [] → length froms ≡ length wan.capacities → ((link : ℕ) → from_at froms link ≡ 0) → IsWalked wan closings list 0 froms
walked-start wan closings list froms none each_link zero_at = subst (λ cs. IsWalked wan cs list 0 froms) (sym none) (record {
  named = tt;
  rise = λ place later le lt. absurd (omega (arith, lt));
  last = λ place lt. absurd (omega (arith, lt));
  below = λ place lt. absurd (omega (arith, lt));
  each_link = each_link;
  upto = λ link. omega (arith, zero_at link);
  owes = λ link lt share from upto reaches fits. tt;
  fits = λ link lt right place from before. absurd (omega (arith, before));
})

pub walked-zeros : (wan : Wan) (closings list : List Closing) (froms : List ℕ) → closings ≡ [] → froms ≡ replicate (length wan.capacities) 0 → IsWalked wan closings list 0 froms
walked-zeros wan closings list froms none made =
    walked-start wan closings list froms none (ap length made ∙ length-replicate {A = ℕ} (length wan.capacities) 0) (λ link. ap (λ fs. from_at fs link) made ∙ each link) where
      each : (link : ℕ) → from_at (replicate (length wan.capacities) 0) link ≡ 0
      each link = elim (cases_lt link (length wan.capacities)) [
        | inl lt ↦ get_or-replicate {A = ℕ} (length wan.capacities) link 0 0 lt
        | inr past ↦ get_or-eq_default (replicate (length wan.capacities) 0) 0 (omega (arith, past, length-replicate {A = ℕ} (length wan.capacities) 0))
      ]
