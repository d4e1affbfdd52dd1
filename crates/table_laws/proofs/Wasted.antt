-- What is left free on a closed link.
use Rattle.std.proofs.Common.{◌≡◌, ℕ, suc, ◌+◌, ◌-◌, ◌<◌, ◌≤◌, Bool, true, false, List, [], ◌∷◌, ◌++◌, length, map, slice_index, refl, sym, ◌∙◌, ap, subst, arith, zero-add, add-zero}
use Rattle.std.specs.List.{Contains}
use Rattle.std.proofs.lemmas.List.{length-append, get_or_at}
use Rattle.std.proofs.lemmas.List.FromFn.{get_or-map-range_with_len}
use Rattle.bwe_specs.specs.declared.network.Closing.{Closing}
use Rattle.bwe_specs.specs.Bounded.{sum_below}
use Rattle.bwe_specs.specs.Paths.{path_group_at, path_group_count, uses, load_on, link_load}
use Rattle.bwe_specs.specs.Filling.{Wan, filling, current_path_group_of, is_at, growth}
use Rattle.bwe_specs.specs.RightClosings.{last_share, amounts_at, AreRight}
use Rattle.bwe_specs.specs.Reports.{numbers}
use Rattle.bwe_specs.specs.Values.{NeverFalls}
use Rattle.bwe_specs.specs.Allocation.{group_line}
use Rattle.bwe_specs.proofs.Bounds.{sum_below-add, sum_below-mono, sum_below-zero}
use Rattle.bwe_specs.proofs.Certificates.{filling-right, filling-amounts}
use Rattle.bwe_specs.proofs.Growth.{amounts_at-grown_amounts, closed-keeps, growth-off, is_at-true}
use Rattle.bwe_specs.proofs.Loads.{load_on-unused, lowest_over-is_over}
use Rattle.allocation_laws.proofs.HeldBack.{held_back}
use Rattle.table_laws.specs.Growing.{GrowsOver, added_load}
use Rattle.table_laws.specs.Tables.{IsWithoutWaste}
use Rattle.table_laws.proofs.Closings.{right-upto, closed-later}
use Rattle.table_laws.proofs.Shared.{line-at, in-groups}

-- the load of a link that a closing closed stays
load-stays : (wan : Wan) (later : List Closing) (closing : Closing) (earlier : List Closing) (share : ℕ)
    → link_load wan.groups (amounts_at wan (later ++ closing ∷ earlier) share) closing.link ≡ link_load wan.groups (amounts_at wan earlier closing.share) closing.link
unfolding amounts_at
load-stays wan [] closing earlier share =
    closed-keeps wan (closing ∷ earlier) closing.share share (amounts_at wan earlier closing.share) closing.link (closed-later [] closing earlier)
load-stays wan (last ∷ later) closing earlier share =
    closed-keeps wan (last ∷ (later ++ closing ∷ earlier)) last.share share (amounts_at wan (later ++ closing ∷ earlier) last.share) closing.link (closed-later (last ∷ later) closing earlier)
    ∙ load-stays wan later closing earlier last.share

-- what all put on the link at the next share is at most what they have put there and what they would add
next-load : (wan : Wan) (closings : List Closing) (share link : ℕ)
    → link_load wan.groups (amounts_at wan closings (suc share)) link ≤ link_load wan.groups (amounts_at wan closings share) link + sum_below (length wan.groups) (added_load wan closings share link)
unfolding link_load
next-load wan closings share link =
    let load : ℕ → ℕ → ℕ → ℕ = λ at group place. load_on (path_group_at wan.groups group place) link (amounts_at wan closings at group place) in
    let row : ℕ → ℕ → ℕ = λ at group. sum_below (path_group_count wan.groups group) (load at group) in
    let one : (group : ℕ) → row (suc share) group ≤ row share group + added_load wan closings share link group = λ group.
    omega (
      arith,
      sum_below-mono (path_group_count wan.groups group) (load (suc share) group) (λ place. load share group place + (load (suc share) group place - load share group place)) (λ place lt. omega arith),
      sum_below-add (path_group_count wan.groups group) (load share group) (λ place. load (suc share) group place - load share group place),
    ) in
    omega (
      arith,
      sum_below-mono (length wan.groups) (row (suc share)) (λ group. row share group + added_load wan closings share link group) (λ group lt. one group),
      sum_below-add (length wan.groups) (row share) (added_load wan closings share link),
    )

-- who does not grow over the link adds nothing there
none-added : (wan : Wan) → NeverFalls wan → (closings : List Closing) (share link group : ℕ) → last_share closings ≤ share → share < wan.top
    → (GrowsOver wan closings group link → ⊥) → added_load wan closings share link group ≡ 0
none-added wan never closings share link group last below not =
    sum_below-zero (path_group_count wan.groups group) _ (λ place lt. at place (is_at (current_path_group_of wan closings group) place) refl (uses (path_group_at wan.groups group place) link) refl)
  where
    grown : (place : ℕ) → amounts_at wan closings (suc share) group place ≡ amounts_at wan closings share group place + growth wan closings share (suc share) group place
    grown place = sym (ap (λ amounts. amounts group place) (amounts_at-grown_amounts wan never closings share (suc share) last (omega arith) below))

    at : (place : ℕ) → (b : Bool) → is_at (current_path_group_of wan closings group) place ≡ b → (u : Bool) → uses (path_group_at wan.groups group place) link ≡ u
        → load_on (path_group_at wan.groups group place) link (amounts_at wan closings (suc share) group place) - load_on (path_group_at wan.groups group place) link (amounts_at wan closings share group place) ≡ 0
    at place false e u used =
        let same : load_on (path_group_at wan.groups group place) link (amounts_at wan closings (suc share) group place) ≡ load_on (path_group_at wan.groups group place) link (amounts_at wan closings share group place) =
        ap (load_on (path_group_at wan.groups group place) link) (grown place ∙ ap (λ more. amounts_at wan closings share group place + more) (growth-off wan closings share (suc share) group place e) ∙ add-zero _) in
        omega (arith, same)
    at place true e true used = absurd (not (record { place = place; current = is_at-true (current_path_group_of wan closings group) place e; used = used }))
    at place true e false unused =
        omega (arith, load_on-unused (path_group_at wan.groups group place) link (amounts_at wan closings (suc share) group place) unused)

-- a closing that stands in the list is one of it
contained : (later : List Closing) (closing : Closing) (earlier : List Closing) → Contains (later ++ closing ∷ earlier) closing
contained later closing earlier = (length later, omega (arith, length-append later (closing ∷ earlier)), get_or_at later closing earlier closing (length later) refl)

pub right : (wan : Wan) → NeverFalls wan → (later : List Closing) (closing : Closing) (earlier : List Closing) → (filling wan).closings ≡ later ++ closing ∷ earlier → AreRight wan (closing ∷ earlier)
right wan never later closing earlier stands = right-upto wan later closing earlier (subst (AreRight wan) stands (filling-right wan never).0)

-- the load of a closed link is what it was at its closing
kept : (wan : Wan) → NeverFalls wan → (later : List Closing) (closing : Closing) (earlier : List Closing) → (filling wan).closings ≡ later ++ closing ∷ earlier
    → slice_index (map (link_load wan.groups (filling wan).amounts) (numbers (length wan.capacities))) closing.link ≡ link_load wan.groups (amounts_at wan earlier closing.share) closing.link
kept wan never later closing earlier stands =
    get_or-map-range_with_len (link_load wan.groups (filling wan).amounts) 0 (length wan.capacities) closing.link closing.link 0 (right wan never later closing earlier stands).1.link_exists (zero-add closing.link)
    ∙ ap (λ amounts. link_load wan.groups amounts closing.link) (filling-amounts wan never ∙ ap (λ closings. amounts_at wan closings wan.top) stands)
    ∙ load-stays wan later closing earlier wan.top

pub without-waste : (wan : Wan) → NeverFalls wan → ((group : ℕ) → wan.value group 0 ≡ 0)
    → IsWithoutWaste wan (map (group_line wan (filling wan)) (numbers (length wan.groups)))
    (map (link_load wan.groups (filling wan).amounts) (numbers (length wan.capacities))) (filling wan).closings
without-waste wan never starts = record {
  held = λ group place lt less.
      let some : 0 < path_group_count wan.groups group = omega (arith, lt) in
      let line = line-at wan (filling wan) group (in-groups wan group some) in
      let by = held_back wan never group (starts group) some (subst (λ line. line.amount < wan.value group wan.top) line less) place lt in
      (by.0, subst (λ closings. Contains closings by.0) (sym by.2.stands) (contained by.2.later by.0 by.1), by.2.used);
  little_left = λ closing earlier stands.
      let right_so_far = right wan never stands.later closing earlier stands.stands in
      let over = lowest_over-is_over wan.groups wan.capacities (amounts_at wan earlier (suc closing.share)) closing.link right_so_far.1.over_at_next in
      omega (arith, over.1, next-load wan earlier closing.share closing.link, kept wan never stands.later closing earlier stands.stands);
  of_growing = λ closing earlier stands group not.
      let right_so_far = right wan never stands.later closing earlier stands.stands in
      none-added wan never earlier closing.share closing.link group right_so_far.1.share_keeps right_so_far.1.below_top not;
  stays = λ closing earlier stands. kept wan never stands.later closing earlier stands.stands;
}
