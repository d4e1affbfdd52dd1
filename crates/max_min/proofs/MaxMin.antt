-- Max-min law: where each group has one path group, it stopped on that.
use Rattle.std.proofs.Common.{◌≡◌, ℕ, ◌<◌, ◌≤◌, List, [], ◌∷◌, ◌++◌, length, map, Option, Some, None, true, refl, sym, ◌∙◌, ap, subst, arith, slice_index_or, zero-add}
use Rattle.std.proofs.lemmas.List.FromFn.{get_or-map-range_with_len}
use Rattle.bwe_specs.specs.declared.network.Closing.{Closing}
use Rattle.bwe_specs.specs.Paths.{path_group_at, path_group_count, uses}
use Rattle.bwe_specs.specs.Filling.{Wan, filling, closed_links, current_path_group_of, group_stop, closed_by}
use Rattle.bwe_specs.specs.Reports.{numbers}
use Rattle.bwe_specs.specs.Values.{NeverFalls}
use Rattle.bwe_specs.specs.Allocation.{GroupLine, PlaceLine, group_line}
use Rattle.bwe_specs.proofs.Loads.{current-open, link_load-mono}
use Rattle.bwe_specs.proofs.StopShares.{stop-moving}
use Rattle.table_laws.specs.Tables.{line_at}
use Rattle.table_laws.proofs.Shared.{line-at}
use Rattle.table_laws.proofs.Wasted.{right}
use Rattle.max_min.specs.MaxMin.{HasOnePathGroupEach, IsAssignment, HasNoMore, IsMaxMin, IsStoppedOn, IsUsedLast, values_at, rests_at, one_place}
use Rattle.max_min.proofs.Stops.{stopped-by, stopped-on, current-unused}
use Rattle.max_min.proofs.Last.{last-path-group}

module _ (wan : Wan) (never : NeverFalls wan) (starts : (group : ℕ) → wan.value group 0 ≡ 0) (each : HasOnePathGroupEach wan.groups) where
  -- a place of a group is its first
  first : (group place : ℕ) → group < length wan.groups → place < path_group_count wan.groups group → place ≡ 0
  first group place there lt = omega (arith, each group there)

  -- who has no path group left stopped on its first
  first-stopped : (group : ℕ) → group < length wan.groups → current_path_group_of wan (filling wan).closings group ≡ None → IsStoppedOn wan (filling wan).closings group 0
  first-stopped group there none =
      let found = stopped-on wan group (omega (arith, each group there)) (filling wan).closings none in
      subst (IsStoppedOn wan (filling wan).closings group)
      (first group found.0 there (current-open (slice_index_or wan.groups group []) (closed_links found.1.earlier) found.0 found.1.before).0) found.1

  -- who stopped below the top has no path group left
  none-left : (group : ℕ) → group_stop wan (filling wan) group < wan.top → current_path_group_of wan (filling wan).closings group ≡ None
  none-left group less = go (current_path_group_of wan (filling wan).closings group) refl where
    go : (o : Option ℕ) → current_path_group_of wan (filling wan).closings group ≡ o → o ≡ None
    go None is = refl
    go (Some q) is = absurd (omega (arith, stop-moving wan (filling wan).closings group q wan.top is))

  -- each group over a closed link stopped on its first path group
  used-last : (later : List Closing) (closing : Closing) (earlier : List Closing) → (filling wan).closings ≡ later ++ closing ∷ earlier → IsUsedLast wan (filling wan).closings closing.link
  used-last later closing earlier stands group place there lt used =
      subst (IsStoppedOn wan (filling wan).closings group) (sym (first group place there lt))
      (first-stopped group there (go (current_path_group_of wan (filling wan).closings group) refl)) where
        go : (o : Option ℕ) → current_path_group_of wan (filling wan).closings group ≡ o → o ≡ None
        go None is = refl
        go (Some q) is =
            let q_lt = (current-open (slice_index_or wan.groups group []) (closed_links (filling wan).closings) q is).0 in
            let same : place ≡ q = first group place there lt ∙ sym (first group q there q_lt) in
            absurd (current-unused wan group q later closing earlier (ap (λ closings. current_path_group_of wan closings group) (sym stands) ∙ is)
            (subst (λ p. uses (path_group_at wan.groups group p) closing.link ≡ true) same used))

  -- the one path group of a group names the link that stopped it
  stop-named : (group : ℕ) → group < length wan.groups → (one_place (group_line wan (filling wan) group)).closed ≡ closed_by (path_group_at wan.groups group 0) (filling wan).closings
  stop-named group lt =
      ap (λ (place : PlaceLine). place.closed)
      (get_or-map-range_with_len (λ place. record { amount = (filling wan).amounts group place; closed = closed_by (path_group_at wan.groups group place) (filling wan).closings })
      0 (path_group_count wan.groups group) 0 0 (record { amount = 0; closed = None }) (omega (arith, each group lt)) (zero-add 0))

  one-has : (shares : ℕ → ℕ) → IsAssignment wan shares → (group : ℕ) → group < length wan.groups → group_stop wan (filling wan) group < shares group
      → (link : ℕ) × (other : ℕ) × ((one_place (group_line wan (filling wan) group)).closed ≡ Some link)
      × HasNoMore wan shares group other link (group_line wan (filling wan) group) (group_line wan (filling wan) other)
  one-has shares assigned group lt more =
      let within : shares group ≤ wan.top = assigned.within group lt in
      let on : IsStoppedOn wan (filling wan).closings group 0 = first-stopped group lt (none-left group (omega arith)) in
      let link : ℕ = on.closing.link in
      let named : closed_by (path_group_at wan.groups group 0) (filling wan).closings ≡ Some link = stopped-by wan (filling wan).closings group 0 on in
      let so_far = right wan never on.stands.later on.closing on.earlier on.stands.stands in
      let found = last-path-group wan never starts link (used-last on.stands.later on.closing on.earlier on.stands.stands) shares assigned.within
      (omega (
        arith,
        link_load-mono wan.groups (rests_at wan (filling wan).amounts shares) (values_at wan shares) link (λ group place. omega arith),
        assigned.fits link so_far.1.link_exists,
      )) group 0 on named more in
      (link, found.0, stop-named group lt ∙ named, found.1)

  -- Max-min law
  pub max-min : IsMaxMin wan (map (group_line wan (filling wan)) (numbers (length wan.groups)))
  max-min shares assigned group lt more =
      let line = line-at wan (filling wan) group lt in
      let lines : List GroupLine = map (group_line wan (filling wan)) (numbers (length wan.groups)) in
      let found = one-has shares assigned group lt (subst (λ (line : GroupLine). line.share < shares group) line more) in
      let other_line = line-at wan (filling wan) found.1 found.3.there in (
        found.0,
        found.1,
        ap (λ (line : GroupLine). (one_place line).closed) line ∙ found.2,
        subst (λ line. HasNoMore wan shares group found.1 found.0 line (line_at lines found.1)) (sym line)
            (subst (λ line. HasNoMore wan shares group found.1 found.0 (group_line wan (filling wan) group) line) (sym other_line) found.3),
      )
