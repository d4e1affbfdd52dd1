-- Where a group stops, by which link, and what it then keeps.
use Rattle.std.proofs.Common.{◌≡◌, ℕ, ◌<◌, ◌≤◌, Bool, true, false, not, List, [], ◌∷◌, ◌++◌, Option, Some, None, is_none, refl, sym, ◌∙◌, ap, ◌⊎◌, inl, inr, arith, if◌then◌else◌, slice_index_or}
use Rattle.std.specs.List.{list_any}
use Rattle.bwe_specs.specs.declared.network.Closing.{Closing}
use Rattle.bwe_specs.specs.Bounded.{found_or}
use Rattle.bwe_specs.specs.Paths.{PathGroup, PathGroups, path_group_at, path_group_count, uses, is_open, current_path_group}
use Rattle.bwe_specs.specs.Filling.{Wan, filling, closed_links, current_path_group_of, is_at, growth, stop_share, closed_by}
use Rattle.bwe_specs.specs.RightClosings.{last_share, amounts_at, AreRight}
use Rattle.bwe_specs.specs.Values.{NeverFalls}
use Rattle.bwe_specs.proofs.Bounds.{lowest-none}
use Rattle.bwe_specs.proofs.Certificates.{filling-amounts}
use Rattle.bwe_specs.proofs.Growth.{growth-off, is_at-true}
use Rattle.bwe_specs.proofs.Loads.{or-false, or-true, current-open, open-unused}
use Rattle.bwe_specs.proofs.StopShares.{none-more}
use Rattle.table_laws.specs.Growing.{StandsIn}
use Rattle.table_laws.proofs.Closings.{closed-later}
use Rattle.max_min.specs.MaxMin.{IsStoppedOn}

not-false : (b : Bool) → not b ≡ false → b ≡ true
not-false true h = refl
not-false false h = absurd (cc)

not-true : (b : Bool) → not b ≡ true → b ≡ false
not-true true h = absurd (cc)
not-true false h = refl

-- a closing after which no path group is left counts at its share
pub stop-after : (path_groups : PathGroups) (c : Closing) (earlier : List Closing) (u : ℕ) → current_path_group path_groups (closed_links (c ∷ earlier)) ≡ None
    → stop_share path_groups (c ∷ earlier) u ≡ stop_share path_groups earlier c.share
unfolding stop_share
stop-after path_groups c earlier u none = rw none

-- a group that has no path group left stops at one share, whatever comes later
pub stop-stays : (path_groups : PathGroups) (later : List Closing) (c : Closing) (earlier : List Closing) (u v : ℕ) → current_path_group path_groups (closed_links (c ∷ earlier)) ≡ None
    → stop_share path_groups (later ++ c ∷ earlier) u ≡ stop_share path_groups (c ∷ earlier) v
unfolding stop_share
stop-stays path_groups [] c earlier u v none = stop-after path_groups c earlier u none ∙ sym (stop-after path_groups c earlier v none)
stop-stays path_groups (last ∷ later) c earlier u v none =
    stop-stays path_groups later c earlier (if is_none (current_path_group path_groups (closed_links (last ∷ (later ++ c ∷ earlier)))) then last.share else u) v none

-- under right closings a stop share is at most the share that is reached
pub stop-le : (wan : Wan) (path_groups : PathGroups) (closings : List Closing) (u : ℕ) → AreRight wan closings → last_share closings ≤ u → stop_share path_groups closings u ≤ u
unfolding stop_share
stop-le wan path_groups [] u right last = omega arith
stop-le wan path_groups (c ∷ earlier) u right last =
    go (is_none (current_path_group path_groups (closed_links (c ∷ earlier)))) (stop-le wan path_groups earlier c.share right.0 right.1.share_keeps)
    (stop-le wan path_groups earlier u right.0 (omega (arith, right.1.share_keeps))) where
      go : (b : Bool) → stop_share path_groups earlier c.share ≤ c.share → stop_share path_groups earlier u ≤ u → stop_share path_groups earlier (if b then c.share else u) ≤ u
      go true here there = omega arith
      go false here there = there

module _ (wan : Wan) (group : ℕ) where
  -- who has no path group left gets none later
  pub none-later : (later : List Closing) (c : Closing) (earlier : List Closing) → current_path_group_of wan (c ∷ earlier) group ≡ None → current_path_group_of wan (later ++ c ∷ earlier) group ≡ None
  none-later [] c earlier none = none
  none-later (last ∷ later) c earlier none =
      none-more (slice_index_or wan.groups group []) last.link (closed_links (later ++ c ∷ earlier)) (none-later later c earlier none)

  -- and grows no more
  growth-stopped : (closings : List Closing) (from to place : ℕ) → current_path_group_of wan closings group ≡ None → growth wan closings from to group place ≡ 0
  unfolding is_at
  growth-stopped closings from to place none = growth-off wan closings from to group place (ap (λ o. is_at o place) none)

  -- so it keeps what it had at the closing
  pub amount-stays : (later : List Closing) (c : Closing) (earlier : List Closing) (u place : ℕ) → current_path_group_of wan (c ∷ earlier) group ≡ None
      → amounts_at wan (later ++ c ∷ earlier) u group place ≡ amounts_at wan earlier c.share group place
  unfolding amounts_at
  amount-stays [] c earlier u place none = omega (arith, growth-stopped (c ∷ earlier) c.share u place none)
  amount-stays (last ∷ later) c earlier u place none =
      omega (
        arith,
        amount-stays later c earlier last.share place none,
        growth-stopped (last ∷ (later ++ c ∷ earlier)) last.share u place (none-later (last ∷ later) c earlier none),
      )

  pub final-amount : NeverFalls wan → (later : List Closing) (c : Closing) (earlier : List Closing) (place : ℕ) → (filling wan).closings ≡ later ++ c ∷ earlier
      → current_path_group_of wan (c ∷ earlier) group ≡ None → (filling wan).amounts group place ≡ amounts_at wan earlier c.share group place
  final-amount never later c earlier place stands none =
      ap (λ amounts. amounts group place) (filling-amounts wan never) ∙ ap (λ closings. amounts_at wan closings wan.top group place) stands
      ∙ amount-stays later c earlier wan.top place none

  -- the place that is current is open
  pub unshut : (closings : List Closing) (place : ℕ) → current_path_group_of wan closings group ≡ Some place → list_any (uses (path_group_at wan.groups group place)) (closed_links closings) ≡ false
  unfolding is_open
  unshut closings place is =
      not-true (list_any (uses (path_group_at wan.groups group place)) (closed_links closings)) (current-open (slice_index_or wan.groups group []) (closed_links closings) place is).1

  -- and each of its places is used by a closed link where none is left
  pub shut : (closings : List Closing) (place : ℕ) → place < path_group_count wan.groups group → current_path_group_of wan closings group ≡ None → list_any (uses (path_group_at wan.groups group place)) (closed_links closings) ≡ true
  unfolding current_path_group is_open
  shut closings place lt none =
      not-false (list_any (uses (path_group_at wan.groups group place)) (closed_links closings))
      (lowest-none (path_group_count wan.groups group) (λ place. is_open (closed_links closings) (path_group_at wan.groups group place)) none place lt)

-- the link of the closing that took a path group is the one that it names
closed-none : (path_group : PathGroup) (closings : List Closing) → list_any (uses path_group) (closed_links closings) ≡ false → closed_by path_group closings ≡ None
unfolding closed_by found_or
closed-none path_group [] h = refl
closed-none path_group (c ∷ earlier) h =
    let parts = or-false (uses path_group c.link) (list_any (uses path_group) (closed_links earlier)) h in
    rw (closed-none path_group earlier parts.1, parts.0)

pub closed-named : (path_group : PathGroup) (later : List Closing) (c : Closing) (earlier : List Closing) → list_any (uses path_group) (closed_links earlier) ≡ false → uses path_group c.link ≡ true
    → closed_by path_group (later ++ c ∷ earlier) ≡ Some c.link
unfolding closed_by found_or
closed-named path_group [] c earlier open_before used = rw (closed-none path_group earlier open_before, used)
closed-named path_group (last ∷ later) c earlier open_before used = rw (closed-named path_group later c earlier open_before used)

-- who stopped on a path group was stopped by the link that it names
pub stopped-by : (wan : Wan) (closings : List Closing) (group place : ℕ) (on : IsStoppedOn wan closings group place) → closed_by (path_group_at wan.groups group place) closings ≡ Some on.closing.link
stopped-by wan closings group place on =
    let open_before = unshut wan group on.earlier place on.before in
    let lt = (current-open (slice_index_or wan.groups group []) (closed_links on.earlier) place on.before).0 in
    let used : uses (path_group_at wan.groups group place) on.closing.link ≡ true =
    elim (or-true (uses (path_group_at wan.groups group place) on.closing.link) (list_any (uses (path_group_at wan.groups group place)) (closed_links on.earlier)) (shut wan group (on.closing ∷ on.earlier) place lt on.after)) [
      | inl u ↦ u
      | inr u ↦ absurd (cc)
    ] in
    ap (closed_by (path_group_at wan.groups group place)) on.stands.stands
    ∙ closed-named (path_group_at wan.groups group place) on.stands.later on.closing on.earlier open_before used

-- who has no path group left stopped on one
pub stopped-on : (wan : Wan) (group : ℕ) → 0 < path_group_count wan.groups group → (closings : List Closing) → current_path_group_of wan closings group ≡ None → (place : ℕ) × IsStoppedOn wan closings group place
stopped-on wan group some [] none = let used = shut wan group [] 0 some none in absurd (cc)
stopped-on wan group some (c ∷ earlier) none = go (current_path_group_of wan earlier group) refl (stopped-on wan group some earlier) where
  go : (o : Option ℕ) → current_path_group_of wan earlier group ≡ o → (current_path_group_of wan earlier group ≡ None → (place : ℕ) × IsStoppedOn wan earlier group place) → (place : ℕ) × IsStoppedOn wan (c ∷ earlier) group place
  go None is before =
      let found = before is in
      let on = found.1 in (
        found.0,
        record {
          closing = on.closing;
          earlier = on.earlier;
          stands = record { later = c ∷ on.stands.later; stands = ap (λ closings. c ∷ closings) on.stands.stands };
          before = on.before;
          after = on.after;
        },
      )
  go (Some place) is before = (
    place,
    record {
      closing = c;
      earlier = earlier;
      stands = record { later = []; stands = refl };
      before = is;
      after = none;
    },
  )

-- who is on a path group uses by it no link of an earlier closing
pub current-unused : (wan : Wan) (group place : ℕ) (later : List Closing) (c : Closing) (earlier : List Closing) → current_path_group_of wan (later ++ c ∷ earlier) group ≡ Some place
    → uses (path_group_at wan.groups group place) c.link ≡ true → ⊥
current-unused wan group place later c earlier is used =
    let unused : uses (path_group_at wan.groups group place) c.link ≡ false =
    open-unused (path_group_at wan.groups group place) (closed_links (later ++ c ∷ earlier)) c.link (current-open (slice_index_or wan.groups group []) (closed_links (later ++ c ∷ earlier)) place is).1 (closed-later later c earlier) in
    cc

-- a path group over a closed link keeps what it had at the closing
pub over-stays : (wan : Wan) (group place : ℕ) (later : List Closing) (c : Closing) (earlier : List Closing) (u : ℕ) → uses (path_group_at wan.groups group place) c.link ≡ true
    → amounts_at wan (later ++ c ∷ earlier) u group place ≡ amounts_at wan earlier c.share group place
unfolding amounts_at
over-stays wan group place later c earlier u used = go later u where
  off : (later : List Closing) (b : Bool) → is_at (current_path_group_of wan (later ++ c ∷ earlier) group) place ≡ b → b ≡ false
  off later false is = refl
  off later true is = absurd (current-unused wan group place later c earlier (is_at-true (current_path_group_of wan (later ++ c ∷ earlier) group) place is) used)

  none : (later : List Closing) (from to : ℕ) → growth wan (later ++ c ∷ earlier) from to group place ≡ 0
  none later from to =
      growth-off wan (later ++ c ∷ earlier) from to group place (off later (is_at (current_path_group_of wan (later ++ c ∷ earlier) group) place) refl)

  go : (later : List Closing) (u : ℕ) → amounts_at wan (later ++ c ∷ earlier) u group place ≡ amounts_at wan earlier c.share group place
  go [] u = omega (arith, none [] c.share u)
  go (last ∷ later) u = omega (arith, go later last.share, none (last ∷ later) last.share u)

tail_of : List Closing → List Closing
tail_of [] = []
tail_of (c ∷ closings) = closings

head_or : Closing → List Closing → Closing
head_or d [] = d
head_or d (c ∷ closings) = c

-- of two closings of one list one stands before the other, or they are the same
pub one-before : (later : List Closing) (c : Closing) (earlier more : List Closing) (d : Closing) (first : List Closing) → later ++ c ∷ earlier ≡ more ++ d ∷ first
    → ((c ≡ d) × (earlier ≡ first)) ⊎ (StandsIn earlier d first ⊎ StandsIn first c earlier)
unfolding tail_of head_or
one-before [] c earlier [] d first same = inl (ap (head_or c) same, ap tail_of same)
one-before [] c earlier (m ∷ more) d first same = inr (inl (record { later = more; stands = ap tail_of same }))
one-before (l ∷ later) c earlier [] d first same = inr (inr (record { later = later; stands = sym (ap tail_of same) }))
one-before (l ∷ later) c earlier (m ∷ more) d first same = one-before later c earlier more d first (ap tail_of same)
