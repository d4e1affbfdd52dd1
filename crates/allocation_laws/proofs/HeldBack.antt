-- What holds back a group that has less than at the top.
use Rattle.std.proofs.Common.{◌≡◌, ℕ, ◌<◌, Bool, true, false, not, List, [], ◌∷◌, Option, Some, None, refl, ◌∙◌, ap, inl, inr, arith, slice_index_or}
use Rattle.std.specs.List.{list_any}
use Rattle.bwe_specs.specs.declared.network.Closing.{Closing}
use Rattle.bwe_specs.specs.Bounded.{found_or}
use Rattle.bwe_specs.specs.Paths.{PathGroup, path_group_at, path_group_count, uses, is_open, current_path_group}
use Rattle.bwe_specs.specs.Filling.{Wan, closed_links, current_path_group_of, group_amount, filling, closed_by}
use Rattle.bwe_specs.specs.RightClosings.{AreRight}
use Rattle.bwe_specs.specs.Values.{NeverFalls}
use Rattle.bwe_specs.proofs.Bounds.{lowest-none}
use Rattle.bwe_specs.proofs.Loads.{or-false, or-true}
use Rattle.bwe_specs.proofs.Certificates.{filling-right}
use Rattle.bwe_specs.proofs.StopShares.{stop-moving, filling-amount}
use Rattle.allocation_laws.specs.Laws.{IsHeldBy}

closed_by-none : (path_group : PathGroup) (closings : List Closing) → list_any (uses path_group) (closed_links closings) ≡ false → closed_by path_group closings ≡ None
unfolding closed_by found_or
closed_by-none path_group [] h = refl
closed_by-none path_group (c ∷ earlier) h =
    let parts = or-false (uses path_group c.link) (list_any (uses path_group) (closed_links earlier)) h in
    rw (closed_by-none path_group earlier parts.1, parts.0)

held : (wan : Wan) (group place : ℕ) (closings : List Closing) → AreRight wan closings → list_any (uses (path_group_at wan.groups group place)) (closed_links closings) ≡ true → (c : Closing) × (earlier : List Closing) × IsHeldBy wan closings group place c earlier
unfolding closed_by found_or
held wan group place [] right h = absurd (cc)
held wan group place (c ∷ earlier) right h =
    go (list_any (uses (path_group_at wan.groups group place)) (closed_links earlier)) refl (held wan group place earlier right.0) where
      go : (b : Bool) → list_any (uses (path_group_at wan.groups group place)) (closed_links earlier) ≡ b
          → (list_any (uses (path_group_at wan.groups group place)) (closed_links earlier) ≡ true → (d : Closing) × (first : List Closing) × IsHeldBy wan earlier group place d first)
          → (d : Closing) × (first : List Closing) × IsHeldBy wan (c ∷ earlier) group place d first
      go true e before =
          let found = before e in
          let by = found.2 in (
            found.0,
            found.1,
            record {
              later = c ∷ by.later;
              stands = ap (λ cs. c ∷ cs) by.stands;
              names = rw by.names;
              used = by.used;
              over_at_next = by.over_at_next;
            },
          )
      go false e before =
          let here : uses (path_group_at wan.groups group place) c.link ≡ true =
          elim (or-true (uses (path_group_at wan.groups group place) c.link) (list_any (uses (path_group_at wan.groups group place)) (closed_links earlier)) h) [ inl u ↦ u | inr u ↦ absurd (cc) ] in (
            c,
            earlier,
            record {
              later = [];
              stands = refl;
              names = rw (closed_by-none (path_group_at wan.groups group place) earlier e, here);
              used = here;
              over_at_next = right.1.over_at_next;
            },
          )

shut-used : (b : Bool) → not b ≡ false → b ≡ true
shut-used true h = refl
shut-used false h = absurd (cc)

stopped-closed : (wan : Wan) (closings : List Closing) (group place : ℕ) → current_path_group_of wan closings group ≡ None → place < path_group_count wan.groups group → list_any (uses (path_group_at wan.groups group place)) (closed_links closings) ≡ true
unfolding current_path_group is_open
stopped-closed wan closings group place e lt =
    shut-used _ (lowest-none (path_group_count wan.groups group) (λ q. is_open (closed_links closings) (slice_index_or (slice_index_or wan.groups group []) q [])) e place lt)

-- a group that has less than at the top is held back on each of its path groups
pub held_back : (wan : Wan) → NeverFalls wan → (group : ℕ) → wan.value group 0 ≡ 0 → 0 < path_group_count wan.groups group → group_amount wan (filling wan).amounts group < wan.value group wan.top → (place : ℕ) → place < path_group_count wan.groups group → (c : Closing) × (earlier : List Closing) × IsHeldBy wan (filling wan).closings group place c earlier
held_back wan never group first path_groups less place lt =
    held wan group place (filling wan).closings (filling-right wan never).0 (stopped-closed wan (filling wan).closings group place (go (current_path_group_of wan (filling wan).closings group) refl) lt) where
      go : (o : Option ℕ) → current_path_group_of wan (filling wan).closings group ≡ o → current_path_group_of wan (filling wan).closings group ≡ None
      go None e = e
      go (Some q) e =
          let whole : group_amount wan (filling wan).amounts group ≡ wan.value group wan.top =
          filling-amount wan never group first path_groups ∙ ap (wan.value group) (stop-moving wan (filling wan).closings group q wan.top e) in
          absurd (omega arith)
