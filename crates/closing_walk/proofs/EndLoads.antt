-- No load falls as closings are made; one share further than a closing it is more by what the groups rise that leave the link.
use Rattle.std.proofs.Common.{◌≡◌, ℕ, zero, suc, ◌+◌, ◌-◌, ◌*◌, ◌/◌, ◌%◌, ◌<◌, ◌≤◌, min, Bool, true, false, List, [], ◌∷◌, ◌++◌, length, reverse, take, Some, refl, sym, ◌∙◌, ap, arith, le_refl, subst, inl, inr, if◌then◌else◌, slice_index, add-one, add-mul, one-mul, eq-zero-or-pos, lt_of_mul-lt-mul_right, le-ltb}
use Rattle.std.specs.Prelude.{IfSome}
use Rattle.std.proofs.Math.Nat.{div-zero, mod-zero}
use Rattle.std.proofs.lemmas.Bool.{cases_eq, cases_lt}
use Rattle.std.proofs.lemmas.Grind.{div_ceil_times}
use Rattle.std.proofs.lemmas.List.{take_all, take_more, get_or_append_left, get_or_push, length_push}
use Rattle.std.specs.Int.{div_ceil}
use Rattle.bwe_specs.specs.declared.limits.TheConstants.{MAX_TOTAL}
use Rattle.bwe_specs.specs.declared.network.Closing.{Closing}
use Rattle.bwe_specs.specs.Bounded.{sum_below}
use Rattle.bwe_specs.specs.Paths.{PathGroup, path_group_at, path_group_count, load_on, link_load, uses, weight_of, weight_over}
use Rattle.bwe_specs.specs.Filling.{Wan, current_path_group_of, is_at, growth}
use Rattle.bwe_specs.specs.RightClosings.{last_share, amounts_at}
use Rattle.bwe_specs.specs.Values.{NeverFalls}
use Rattle.bwe_specs.proofs.Bounds.{sum_below-mono, sum_below-more, sum_below-term}
use Rattle.bwe_specs.proofs.Growth.{growth-off, growth-on, is_at-true, value-mono, amounts_at-grown_amounts}
use Rattle.bwe_specs.proofs.Loads.{load_on-mono, load_on-unused}
use Rattle.mpfa_fill.proofs.MomentLemmas.{reverse_push}
use Rattle.mpfa_fill.specs.LastFit.{is_over_at}
use Rattle.closing_walk.specs.Walk.{closing_at, AreRising, IsAt}
use Rattle.closing_walk.specs.Ends.{group_load, end_amounts, AreEndLoads, AreBounds, IsBounded, FitsBy, AreWithin, AreLoads}
use Rattle.closing_walk.specs.declared.ends.EndLoads.{EndLoads}
use Rattle.closing_walk.proofs.Rights.{link-fits-below}

-- rounded up, a sum is no more than its parts
div_ceil-add : (a b w : ℕ) → div_ceil (a + b) w ≤ div_ceil a w + div_ceil b w
div_ceil-add a b w =
    elim (eq-zero-or-pos w) [
      | inl z ↦ rw (z, div-zero (a + b), div-zero a, div-zero b, mod-zero (a + b), mod-zero a, mod-zero b) (omega arith)
      | inr pos ↦
          let both = div_ceil_times (a + b) w pos in
          let first = div_ceil_times a w pos in
          let second = div_ceil_times b w pos in
          let below : ((a + b) / w + min 1 ((a + b) % w)) * w < ((a / w + min 1 (a % w)) + (b / w + min 1 (b % w)) + 1) * w =
          rw (add-mul ((a / w + min 1 (a % w)) + (b / w + min 1 (b % w))) 1 w, add-mul (a / w + min 1 (a % w)) (b / w + min 1 (b % w)) w, one-mul w) (omega (arith, both.1, first.0, second.0)) in
          omega (arith, lt_of_mul-lt-mul_right w below)
    ]

load_on-add : (path_group : PathGroup) (link a b : ℕ) → load_on path_group link (a + b) ≤ load_on path_group link a + load_on path_group link b
unfolding load_on
load_on-add path_group link a b =
    subst (λ n. div_ceil n (weight_of path_group) ≤ div_ceil (a * weight_over path_group link) (weight_of path_group) + div_ceil (b * weight_over path_group link) (weight_of path_group))
    (sym (add-mul a b (weight_over path_group link)))
    (div_ceil-add (a * weight_over path_group link) (b * weight_over path_group link) (weight_of path_group))

-- where one term is more by no more than so much, the sum is too
sum_below-one_more : (n i more : ℕ) (f g : ℕ → ℕ) → ((j : ℕ) → j < n → (j ≡ i → ⊥) → f j ≤ g j) → f i ≤ g i + more → sum_below n f ≤ sum_below n g + more
unfolding sum_below
sum_below-one_more zero i more f g each room = omega arith
sum_below-one_more (suc n) i more f g each room =
    elim (cases_eq i n) [
      | inl e ↦ omega (arith, subst (λ k. f k ≤ g k + more) e room, sum_below-mono n f g (λ j below. each j (omega arith) (λ same. absurd (omega (arith, same, e, below)))))
      | inr other ↦ omega (arith, sum_below-one_more n i more f g (λ j below apart. each j (omega arith) apart) room, each n (omega arith) (λ same. absurd (omega (arith, same, other))))
    ]

growth-same : (wan : Wan) (closings others : List Closing) (from to group place : ℕ) → current_path_group_of wan others group ≡ current_path_group_of wan closings group → growth wan others from to group place ≡ growth wan closings from to group place
unfolding growth
growth-same wan closings others from to group place e = ap (λ o. if is_at o place then wan.value group to - wan.value group from else 0) e

-- the closings up to a place, and one more
pub next-closing : (list : List Closing) (at : ℕ) → at < length list → reverse (take (suc at) list) ≡ closing_at list at ∷ reverse (take at list)
next-closing list at lt =
    ap (λ n. reverse (take n list)) (sym (add-one at)) ∙ ap reverse (take_more list at (record { link = 0; share = 0 }) lt) ∙ reverse_push (take at list) (closing_at list at)

module _ (wan : Wan) (never : NeverFalls wan) where
  at-next : (closings : List Closing) (s t group place : ℕ) → last_share closings ≤ s → s ≤ t → t ≤ wan.top → amounts_at wan closings s group place + growth wan closings s t group place ≡ amounts_at wan closings t group place
  at-next closings s t group place last order within = ap (λ x. x group place) (amounts_at-grown_amounts wan never closings s t last order within)

  closed-at : (closing : Closing) (earlier : List Closing) (t group place : ℕ) → amounts_at wan (closing ∷ earlier) t group place ≡ amounts_at wan earlier closing.share group place + growth wan (closing ∷ earlier) closing.share t group place
  unfolding amounts_at
  closed-at closing earlier t group place = refl

  -- no amount falls from a share on, as the closings from a place on are made at that share or later
  no-less : (list : List Closing) (from s : ℕ) → last_share (reverse (take from list)) ≤ s → ((place : ℕ) → from ≤ place → place < length list → s ≤ (closing_at list place).share)
      → ((place : ℕ) → place < length list → (closing_at list place).share < wan.top)
      → (n : ℕ) → from ≤ n → n ≤ length list → (t : ℕ) → s ≤ t → t ≤ wan.top → (group place : ℕ)
      → amounts_at wan (reverse (take from list)) s group place ≤ amounts_at wan (reverse (take n list)) t group place
  no-less list from s last later below zero le most t order within group place =
      let e : from ≡ 0 = omega (arith, le) in
      subst (λ k. amounts_at wan (reverse (take from list)) s group place ≤ amounts_at wan (reverse (take k list)) t group place) e
      (omega (arith, at-next (reverse (take from list)) s t group place last order within))
  no-less list from s last later below (suc n) le most t order within group place =
      elim (cases_eq from (suc n)) [
        | inl e ↦
            subst (λ k. amounts_at wan (reverse (take from list)) s group place ≤ amounts_at wan (reverse (take k list)) t group place) e
            (omega (arith, at-next (reverse (take from list)) s t group place last order within))
        | inr other ↦
            let lt : n < length list = omega (arith, most) in
            let closing : Closing = closing_at list n in
            let before = no-less list from s last later below n (omega (arith, le, other)) (omega (arith, most)) closing.share (later n (omega (arith, le, other)) lt) (omega (arith, below n lt)) group place in
            subst (λ cs. amounts_at wan (reverse (take from list)) s group place ≤ amounts_at wan cs t group place) (sym (next-closing list n lt))
            (omega (arith, before, closed-at closing (reverse (take n list)) t group place))
      ]

  -- so in the end it is no less
  end-no-less : (list : List Closing) (from s : ℕ) → last_share (reverse (take from list)) ≤ s → s ≤ wan.top → from ≤ length list → ((place : ℕ) → from ≤ place → place < length list → s ≤ (closing_at list place).share)
      → ((place : ℕ) → place < length list → (closing_at list place).share < wan.top) → (group place : ℕ)
      → amounts_at wan (reverse (take from list)) s group place ≤ end_amounts wan list group place
  end-no-less list from s last within inside later below group place =
      subst (λ all. amounts_at wan (reverse (take from list)) s group place ≤ amounts_at wan (reverse all) wan.top group place) (take_all (length list) list (le_refl (length list)))
      (no-less list from s last later below (length list) inside (le_refl (length list)) wan.top within (le_refl wan.top) group place)

  module _ (closings list : List Closing) (at : ℕ) (is : IsAt wan closings list at) (here_is : closings ≡ reverse (take at list)) (rise : AreRising list (length list)) (below : (place : ℕ) → place < length list → (closing_at list place).share < wan.top) where
    abbrev pub share : ℕ
    share = (closing_at list at).share

    at-share : (group place : ℕ) → amounts_at wan closings share group place ≤ end_amounts wan list group place
    at-share group place =
        subst (λ cs. amounts_at wan cs share group place ≤ end_amounts wan list group place) (sym here_is)
        (end-no-less list at share (subst (λ cs. last_share cs ≤ share) here_is is.keeps) (omega (arith, is.below)) (omega (arith, is.in_range)) (λ place from lt. rise at place from lt) below group place)

    one-further : (group place : ℕ) → amounts_at wan closings share group place + growth wan closings share (suc share) group place ≡ amounts_at wan closings (suc share) group place
    one-further group place = at-next closings share (suc share) group place is.keeps (omega arith) (omega (arith, is.below))

    module _ (later : (place : ℕ) → at < place → place < length list → share < (closing_at list place).share) where
      after-it : (group place : ℕ) → amounts_at wan (closing_at list at ∷ closings) (suc share) group place ≤ end_amounts wan list group place
      after-it group place =
          let made : reverse (take (suc at) list) ≡ closing_at list at ∷ closings = next-closing list at is.in_range ∙ ap (λ cs. closing_at list at ∷ cs) (sym here_is) in
          subst (λ cs. amounts_at wan cs (suc share) group place ≤ end_amounts wan list group place) made
          (end-no-less list (suc at) (suc share) (subst (λ cs. last_share cs ≤ suc share) (sym made) (omega arith)) (omega (arith, is.below)) (omega (arith, is.in_range)) (λ place from lt. omega (arith, later place (omega (arith, from)) lt)) below group place)

      -- a group that the closing leaves where it is puts no more on a link one share further than in the end
      kept-within : (group : ℕ) → current_path_group_of wan (closing_at list at ∷ closings) group ≡ current_path_group_of wan closings group → (link : ℕ)
          → group_load wan (amounts_at wan closings (suc share)) link group ≤ group_load wan (end_amounts wan list) link group
      kept-within group same link =
          sum_below-mono (path_group_count wan.groups group) _ _
          (λ place pl. load_on-mono (path_group_at wan.groups group place) link _ _
          (omega (arith, one-further group place, closed-at (closing_at list at) closings (suc share) group place, growth-same wan closings (closing_at list at ∷ closings) share (suc share) group place same, after-it group place)))

      -- and one that leaves a path group by no more than what its value rises
      moved-within : (group place more : ℕ) → current_path_group_of wan closings group ≡ Some place → wan.value group (suc share) ≤ wan.value group share + more → (link : ℕ)
          → group_load wan (amounts_at wan closings (suc share)) link group ≤ group_load wan (end_amounts wan list) link group + load_on (path_group_at wan.groups group place) link more
      moved-within group place more grows rises link =
          sum_below-one_more (path_group_count wan.groups group) place (load_on (path_group_at wan.groups group place) link more)
          (λ p. load_on (path_group_at wan.groups group p) link (amounts_at wan closings (suc share) group p)) (λ p. load_on (path_group_at wan.groups group p) link (end_amounts wan list group p))
          (λ p pl other. load_on-mono (path_group_at wan.groups group p) link _ _ (omega (arith, one-further group p, at-share group p, growth-off wan closings share (suc share) group p (off p other (is_at (current_path_group_of wan closings group) p) refl))))
          (omega (
            arith,
            load_on-mono (path_group_at wan.groups group place) link (amounts_at wan closings (suc share) group place) (end_amounts wan list group place + more) (there (is_at (current_path_group_of wan closings group) place) refl),
            load_on-add (path_group_at wan.groups group place) link (end_amounts wan list group place) more,
          )) where
            off : (p : ℕ) → (p ≡ place → ⊥) → (b : Bool) → is_at (current_path_group_of wan closings group) p ≡ b → is_at (current_path_group_of wan closings group) p ≡ false
            off p other false e = e
            off p other true e =
                let some : Some p ≡ Some place = sym (is_at-true (current_path_group_of wan closings group) p e) ∙ grows in
                let same : p ≡ place = cc in
                absurd (other same)

            there : (b : Bool) → is_at (current_path_group_of wan closings group) place ≡ b → amounts_at wan closings (suc share) group place ≤ end_amounts wan list group place + more
            there true e = omega (arith, one-further group place, at-share group place, growth-on wan closings share (suc share) group place e, rises)
            there false e = omega (arith, one-further group place, at-share group place, growth-off wan closings share (suc share) group place e)

      pub within-start : (extra : List ℕ) → AreWithin wan closings list (suc share) extra 0
      unfolding sum_below
      within-start extra link lt few = omega arith

      pub within-kept : (extra : List ℕ) (group : ℕ) → current_path_group_of wan (closing_at list at ∷ closings) group ≡ current_path_group_of wan closings group
          → AreWithin wan closings list (suc share) extra group → AreWithin wan closings list (suc share) extra (group + 1)
      within-kept extra group same so link lt few =
          omega (arith, so link lt few, kept-within group same link, sum_below-more group (group_load wan (amounts_at wan closings (suc share)) link), sum_below-more group (group_load wan (end_amounts wan list) link))

      pub within-moved : (old new : List ℕ) (group place more : ℕ) → current_path_group_of wan closings group ≡ Some place → wan.value group (suc share) ≤ wan.value group share + more
          → ((link : ℕ) → slice_index old link ≤ slice_index new link)
          → ((link : ℕ) → uses (path_group_at wan.groups group place) link ≡ true → slice_index new link < 18446744073709551615 → slice_index old link + load_on (path_group_at wan.groups group place) link more ≤ slice_index new link)
          → AreWithin wan closings list (suc share) old group → AreWithin wan closings list (suc share) new (group + 1)
      within-moved old new group place more grows rises grown added so link lt few = go (uses (path_group_at wan.groups group place) link) refl where
        go : (used : Bool) → uses (path_group_at wan.groups group place) link ≡ used
            → sum_below (group + 1) (group_load wan (amounts_at wan closings (suc share)) link) ≤ sum_below (group + 1) (group_load wan (end_amounts wan list) link) + slice_index new link
        go true e =
            let room = added link e few in
            omega (arith, room, so link lt (omega (arith, room, few)), moved-within group place more grows rises link, sum_below-more group (group_load wan (amounts_at wan closings (suc share)) link), sum_below-more group (group_load wan (end_amounts wan list) link))
        go false e =
            omega (
              arith,
              load_on-unused (path_group_at wan.groups group place) link more e,
              grown link,
              so link lt (omega (arith, grown link, few)),
              moved-within group place more grows rises link,
              sum_below-more group (group_load wan (amounts_at wan closings (suc share)) link),
              sum_below-more group (group_load wan (end_amounts wan list) link),
            )

-- one more closing at a share that is no less than the earlier ones
pub rising-next : (list : List Closing) (at s : ℕ) → AreRising list at → ((place : ℕ) → place < at → (closing_at list place).share ≤ s) → s ≤ (closing_at list at).share → AreRising list (at + 1)
rising-next list at s rise last keeps place later le before = elim (cases_lt later at) [
  | inl inside ↦ rise place later le inside
  | inr past ↦
      let e : later ≡ at = omega (arith, before, past) in
      subst (λ k. (closing_at list place).share ≤ (closing_at list k).share) (sym e)
      (elim (cases_lt place at) [
        | inl inside ↦ omega (arith, last place inside, keeps)
        | inr there ↦ let f : place ≡ at = omega (arith, there, le, e) in subst (λ k. (closing_at list k).share ≤ (closing_at list at).share) (sym f) (le_refl (closing_at list at).share)
      ])
]

-- one more load
pub loads-next : (wan : Wan) (closings : List Closing) (share count : ℕ) (loads : List ℕ) (load : ℕ) → AreLoads wan closings share count loads → load ≡ link_load wan.groups (amounts_at wan closings share) count
    → is_over_at wan closings share count ≡ false → AreLoads wan closings share (count + 1) (loads ++ load ∷ [])
loads-next wan closings share count loads load are is fits = record {
  each_link = length_push loads load ∙ ap (λ n. n + 1) are.each_link;
  loads = λ link lt. elim (cases_eq link count) [
    | inl e ↦ get_or_push loads load 0 link (are.each_link ∙ sym e) ∙ subst (λ k. load ≡ link_load wan.groups (amounts_at wan closings share) k) (sym e) is
    | inr other ↦ get_or_append_left loads (load ∷ []) 0 link (omega (arith, lt, other, are.each_link)) ∙ are.loads link (omega (arith, lt, other))
  ];
  fit = λ link lt. elim (cases_eq link count) [
    | inl e ↦ subst (λ k. is_over_at wan closings share k ≡ false) (sym e) fits
    | inr other ↦ are.fit link (omega (arith, lt, other))
  ];
}

-- no value is above all values at the top
pub value-small : (wan : Wan) → NeverFalls wan → sum_below (length wan.groups) (λ group. wan.value group wan.top) ≤ MAX_TOTAL → (group s : ℕ) → group < length wan.groups → s ≤ wan.top → wan.value group s ≤ MAX_TOTAL
value-small wan never most group s lt upto =
    omega (arith, sum_below-term (length wan.groups) group (λ g. wan.value g wan.top) lt, most, value-mono wan never group s wan.top upto (le_refl wan.top))

-- a link that fits by the loads of the end fits
pub fits-by : (wan : Wan) → NeverFalls wan → (closings : List Closing) (ends : EndLoads) → AreBounds wan closings ends → (link : ℕ) → link < length wan.capacities → (share : ℕ) → last_share closings ≤ share
    → FitsBy ends link share (slice_index wan.capacities link) → is_over_at wan closings share link ≡ false
fits-by wan never closings ends bounds link lt share last fits =
    let bounded : IsBounded wan closings ends fits.upto = subst (λ o. IfSome o (IsBounded wan closings ends)) fits.is bounds.upto in
    link-fits-below wan never closings share fits.upto link last fits.reaches bounded.within
    (le-ltb (slice_index wan.capacities link) (link_load wan.groups (amounts_at wan closings fits.upto) link) (omega (arith, bounded.most link lt fits.known, fits.fits)))

-- what all groups put on the links bounds their loads
pub bounded-all : (wan : Wan) (closings list : List Closing) (share : ℕ) (old new : EndLoads) → AreEndLoads wan list old → new.loads.items ≡ old.loads.items → last_share closings ≤ share → share ≤ wan.top
    → AreWithin wan closings list share new.extra.items (length wan.groups) → IsBounded wan closings new share
unfolding link_load
bounded-all wan closings list share old new are same last within so = record {
  last = last;
  within = within;
  most = λ link lt few. omega (arith, so link lt few, ap (λ loads. slice_index loads link) same, are.loads link lt);
}
