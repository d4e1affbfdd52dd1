-- What is counted where a group moves comes out of its moves to come.
use Rattle.std.proofs.Common.{◌≡◌, ℕ, zero, suc, ◌+◌, ◌-◌, ◌*◌, ◌^◌, ◌<◌, ◌≤◌, ◌||◌, ◌==◌, Bool, true, false, List, [], ◌∷◌, length, get_or, map, take, Option, Some, None, refl, sym, ◌∙◌, ap, arith, subst, if◌then◌else◌, nat_eq, slice_index_or, eq-eqb, length-append}
use Rattle.std.specs.List.{IsDistinct}
use Rattle.std.proofs.Math.Nat.{mul-le-mul_left}
use Rattle.std.proofs.lemmas.List.{take_all, take_more}
use Rattle.bwe_specs.specs.declared.network.Closing.{Closing}
use Rattle.bwe_specs.specs.Bounded.{sum_below}
use Rattle.bwe_specs.specs.Paths.{PathGroup, PathGroups, path_group_at, path_group_count, uses}
use Rattle.bwe_specs.specs.Filling.{Wan, closed_links, current_path_group_of}
use Rattle.bwe_specs.proofs.Bounds.{sum_below-mono, sum_below-more}
use Rattle.bwe_specs.proofs.Loads.{current-open}
use Rattle.bwe_specs.proofs.StopShares.{none-more}
use Rattle.bwe_specs.proofs.Sums.{sum_below-room}
use Rattle.path_groups.specs.declared.part.LinkPart.{LinkPart}
use Rattle.path_groups.specs.Parts.{AreParts, has_part}
use Rattle.path_groups.proofs.Parts.{AreParts-used}
use Rattle.link_sums.proofs.MovedLoads.{fresh}
use Rattle.mpfa_fill.specs.declared.standing.Standing.{Standing}
use Rattle.mpfa_fill.specs.declared.standing.Standing.TheVariants.{Grows, Stopped}
use Rattle.mpfa_fill.specs.Standing.{standing_of, standing_under}
use Rattle.mpfa_fill.specs.Growth.{IsHeld}
use Rattle.mpfa_fill.proofs.Closed.{some-more}
use Rattle.link_front.specs.Moves.{links_of, moves_of}
use Rattle.link_front.proofs.Walks.{UsesNot}
use Rattle.link_front.proofs.GroupMoves.{goes-later, none-used, moves-same, moves-leave, moves-on, keeps-path_group}
use Rattle.link_solver.specs.Dues.{came_to}
use Rattle.link_solver.specs.Counts.{path_groups_in, places_left, places_of, places_ahead, moves_now, links_reached}
use Rattle.link_solver.proofs.Marking.{has-more}

-- so many parts are for so many links
abbrev pub links_with : ℕ → List LinkPart → ℕ
links_with links parts = sum_below links (λ link. if has_part parts link then 1 else 0)

parts-first : (links : ℕ) (parts : List LinkPart) (d : LinkPart) → IsDistinct nat_eq (map (λ part. part.link) parts) → ((i : ℕ) → i < length parts → (get_or parts i d).link < links)
    → (i : ℕ) → i ≤ length parts → i ≤ links_with links (take i parts)
parts-first links parts d once within zero le = omega arith
parts-first links parts d once within (suc i) le =
    let lt : i < length parts = omega (arith, le) in
    let link : ℕ = (get_or parts i d).link in
    let on : i + 1 ≡ suc i = omega arith in
    let more : (k : ℕ) → has_part (take (suc i) parts) k ≡ (has_part (take i parts) k || (link == k)) = λ k. subst (λ n. has_part (take n parts) k ≡ (has_part (take i parts) k || (link == k))) on (has-more parts i d k lt) in
    omega (
      arith,
      parts-first links parts d once within i (omega (arith, le)),
      sum_below-room links link 1 (λ k. if has_part (take i parts) k then 1 else 0) (λ k. if has_part (take (suc i) parts) k then 1 else 0) (within i lt)
          (λ k kl. keeps (has_part (take i parts) k) (link == k) (has_part (take (suc i) parts) k) (more k))
          (adds (has_part (take i parts) link) (link == link) (has_part (take (suc i) parts) link) (fresh parts i d lt once) (eq-eqb link link refl) (more link)),
    ) where
      keeps : (old this new : Bool) → new ≡ (old || this) → (if old then 1 else 0) ≤ (if new then 1 else 0)
      keeps true this new e = rw e omega arith
      keeps false this new e = omega arith

      adds : (old this new : Bool) → old ≡ false → this ≡ true → new ≡ (old || this) → (if old then 1 else 0) + 1 ≤ (if new then 1 else 0)
      adds true this new e f g = absurd (cc)
      adds false false new e f g = absurd (cc)
      adds false true new e f g = rw g omega arith

-- a path group has no more parts than links
pub parts-few : (links : ℕ) (path_group : PathGroup) (parts : List LinkPart) → AreParts path_group parts → ((link : ℕ) → uses path_group link ≡ true → link < links) → length parts ≤ links_of links path_group
parts-few links path_group parts are within =
    let d : LinkPart = record { link = 0; weight = 0; whole = 0 } in
    omega (
      arith,
      parts-first links parts d are.some.once (λ i lt. within (get_or parts i d).link (are.some.each i d lt).used) (length parts) (omega arith),
      ap (links_with links) (take_all (length parts) parts (omega arith)),
      sum_below-mono links (λ link. if has_part parts link then 1 else 0) (λ link. if uses path_group link then 1 else 0)
          (λ link lt. same (has_part parts link) (uses path_group link) (AreParts-used path_group parts link are)),
    ) where
      same : (has used : Bool) → has ≡ used → (if has then 1 else 0) ≤ (if used then 1 else 0)
      same has used e = rw e omega arith

-- one part more
pub length-more : (parts : List LinkPart) (i : ℕ) (d : LinkPart) → i < length parts → length (take (i + 1) parts) ≡ length (take i parts) + 1
length-more parts i d lt = ap (λ (ps : List LinkPart). length ps) (take_more parts i d lt) ∙ length-append (take i parts) (get_or parts i d ∷ [])

-- where the group grew over the closed link it comes to the links of its next path group, and it moves once
pub reached-on : (links : ℕ) (groups : List PathGroups) (group : ℕ) (closing : Closing) (place value : ℕ) (before after : Standing) → before ≡ Grows place value → uses (path_group_at groups group place) closing.link ≡ true
    → links_reached links groups group closing before after ≡ links_of links (came_to groups group after)
reached-on links groups group closing place value before after e used =
    ap (λ (s : Standing). links_reached links groups group closing s after) e
    ∙ ap (λ b. if b then links_of links (came_to groups group after) else 0) used

pub moved-once : (groups : List PathGroups) (group : ℕ) (closing : Closing) (place value : ℕ) (before : Standing) → before ≡ Grows place value → uses (path_group_at groups group place) closing.link ≡ true
    → moves_now groups group closing before ≡ 1
moved-once groups group closing place value before e used =
    ap (λ (s : Standing). moves_now groups group closing s) e ∙ ap (λ b. if b then 1 else 0) used

-- and else it does not move
pub moved-not : (groups : List PathGroups) (group : ℕ) (closing : Closing) (place value : ℕ) (before : Standing) → before ≡ Grows place value → uses (path_group_at groups group place) closing.link ≡ false
    → moves_now groups group closing before ≡ 0
moved-not groups group closing place value before e unused =
    ap (λ (s : Standing). moves_now groups group closing s) e ∙ ap (λ b. if b then 1 else 0) unused

pub stopped-not : (groups : List PathGroups) (group : ℕ) (closing : Closing) (share : ℕ) (before : Standing) → before ≡ Stopped share → moves_now groups group closing before ≡ 0
stopped-not groups group closing share before e = ap (λ (s : Standing). moves_now groups group closing s) e

module _ (wan : Wan) (earlier : List Closing) (closing : Closing) (group : ℕ) where
  places-same : current_path_group_of wan (closing ∷ earlier) group ≡ current_path_group_of wan earlier group → places_of wan (closing ∷ earlier) group ≡ places_of wan earlier group
  places-same e = ap (places_left (path_group_count wan.groups group)) e

  keeps-current : (added : ℕ → ℕ → ℕ) (place base : ℕ) → current_path_group_of wan earlier group ≡ Some place → uses (path_group_at wan.groups group place) closing.link ≡ false
      → current_path_group_of wan (closing ∷ earlier) group ≡ current_path_group_of wan earlier group
  keeps-current added place base current unused = some-more (slice_index_or wan.groups group []) closing.link (closed_links earlier) place current unused ∙ sym current

  stays-stopped : current_path_group_of wan earlier group ≡ None → current_path_group_of wan (closing ∷ earlier) group ≡ current_path_group_of wan earlier group
  stays-stopped none = none-more (slice_index_or wan.groups group []) closing.link (closed_links earlier) none ∙ sym none

  -- the links to which the group comes are among those of its moves to come
  reaches : (place base : ℕ) → current_path_group_of wan earlier group ≡ Some place → (used : Bool) → uses (path_group_at wan.groups group place) closing.link ≡ used → (next : Option ℕ) → current_path_group_of wan (closing ∷ earlier) group ≡ next
      → moves_of wan (closing ∷ earlier) group + (if used then links_of (length wan.capacities) (came_to wan.groups group (standing_of next base closing.share)) else 0) ≤ moves_of wan earlier group
  reaches place base current false used next e = omega (arith, moves-same wan earlier closing group (keeps-current (λ _ _. 0) place base current used))
  reaches place base current true used (Some next) e = omega (arith, moves-on wan earlier closing group place next current used e)
  reaches place base current true used None e = omega (arith, moves-leave wan earlier closing group place current used, none-used (length wan.capacities))

  pub reached-group : (added : ℕ → ℕ → ℕ) (standing : Standing) → IsHeld wan earlier added group standing
      → moves_of wan (closing ∷ earlier) group + links_reached (length wan.capacities) wan.groups group closing standing (standing_under wan.groups group (closed_links (closing ∷ earlier)) closing standing) ≤ moves_of wan earlier group
  reached-group added (Grows place base) held = go (uses (path_group_at wan.groups group place) closing.link) refl where
    go : (used : Bool) → uses (path_group_at wan.groups group place) closing.link ≡ used
        → moves_of wan (closing ∷ earlier) group
        + (if used then links_of (length wan.capacities) (came_to wan.groups group (if used then standing_of (current_path_group_of wan (closing ∷ earlier) group) base closing.share else Grows place base)) else 0)
        ≤ moves_of wan earlier group
    go true used = reaches place base held.0 true used (current_path_group_of wan (closing ∷ earlier) group) refl
    go false used = omega (arith, moves-same wan earlier closing group (keeps-current added place base held.0 used))
  reached-group added (Stopped at) held = omega (arith, moves-same wan earlier closing group (stays-stopped held.0))

  -- and each move leaves one path group less
  leaves : (place : ℕ) → current_path_group_of wan earlier group ≡ Some place → uses (path_group_at wan.groups group place) closing.link ≡ true → (next : Option ℕ) → current_path_group_of wan (closing ∷ earlier) group ≡ next
      → places_left (path_group_count wan.groups group) next + 1 ≤ path_group_count wan.groups group - place
  leaves place current used (Some next) e =
      omega (
        arith,
        (current-open (slice_index_or wan.groups group []) (closed_links earlier) place current).0,
        goes-later (slice_index_or wan.groups group []) closing.link (closed_links earlier) place next current used e,
        (current-open (slice_index_or wan.groups group []) (closed_links (closing ∷ earlier)) next e).0,
      )
  leaves place current used None e = omega (arith, (current-open (slice_index_or wan.groups group []) (closed_links earlier) place current).0)

  pub moved-group : (added : ℕ → ℕ → ℕ) (standing : Standing) → IsHeld wan earlier added group standing
      → places_of wan (closing ∷ earlier) group + moves_now wan.groups group closing standing ≤ places_of wan earlier group
  moved-group added (Grows place base) held = go (uses (path_group_at wan.groups group place) closing.link) refl where
    go : (used : Bool) → uses (path_group_at wan.groups group place) closing.link ≡ used → places_of wan (closing ∷ earlier) group + (if used then 1 else 0) ≤ places_of wan earlier group
    go true used = omega (arith, leaves place held.0 used (current_path_group_of wan (closing ∷ earlier) group) refl, ap (places_left (path_group_count wan.groups group)) held.0)
    go false used = omega (arith, places-same (keeps-current added place base held.0 used))
  moved-group added (Stopped at) held = omega (arith, places-same (stays-stopped held.0))

-- what was counted of the groups below a number comes out of what was to come of them
pub record AreCounted (wan : Wan) (earlier : List Closing) (closing : Closing) (links first_plays played first_moves moved count : ℕ) : Type 0 where
  pub plays : (levels : ℕ) → links ≤ 2 ^ levels → played + levels * sum_below count (moves_of wan (closing ∷ earlier)) ≤ first_plays + levels * sum_below count (moves_of wan earlier)
  pub moves : moved + sum_below count (places_of wan (closing ∷ earlier)) ≤ first_moves + sum_below count (places_of wan earlier)

pub counted-start : (wan : Wan) (earlier : List Closing) (closing : Closing) (links plays moves : ℕ) → AreCounted wan earlier closing links plays plays moves moves 0
unfolding sum_below
counted-start wan earlier closing links plays moves = record { plays = λ levels le. omega arith; moves = omega arith }

pub counted-unused : (wan : Wan) (earlier : List Closing) (closing : Closing) (links first_plays plays first_moves moves group : ℕ) → UsesNot wan.groups closing.link group
    → AreCounted wan earlier closing links first_plays plays first_moves moves group → AreCounted wan earlier closing links first_plays plays first_moves moves (group + 1)
counted-unused wan earlier closing links first_plays plays first_moves moves group unused are =
    let same : current_path_group_of wan (closing ∷ earlier) group ≡ current_path_group_of wan earlier group = keeps-path_group wan earlier closing group (λ place current. unused place) in
    record {
      plays = λ levels le. omega (
        arith,
        are.plays levels le,
        ap (λ n. levels * n) (sum_below-more group (moves_of wan (closing ∷ earlier))),
        ap (λ n. levels * n) (sum_below-more group (moves_of wan earlier)),
        ap (λ n. levels * n) (moves-same wan earlier closing group same),
      );
      moves = omega (
        arith,
        are.moves,
        sum_below-more group (places_of wan (closing ∷ earlier)),
        sum_below-more group (places_of wan earlier),
        places-same wan earlier closing group same,
      );
    }

pub counted-next : (wan : Wan) (earlier : List Closing) (closing : Closing) (links first_plays mid plays first_moves mid_moves moves group : ℕ) (added : ℕ → ℕ → ℕ) (standing : Standing) → IsHeld wan earlier added group standing
    → ((levels : ℕ) → links ≤ 2 ^ levels → plays ≤ mid + levels * links_reached (length wan.capacities) wan.groups group closing standing (standing_under wan.groups group (closed_links (closing ∷ earlier)) closing standing))
    → moves ≡ mid_moves + moves_now wan.groups group closing standing
    → AreCounted wan earlier closing links first_plays mid first_moves mid_moves group → AreCounted wan earlier closing links first_plays plays first_moves moves (group + 1)
counted-next wan earlier closing links first_plays mid plays first_moves mid_moves moves group added standing held played moved are = record {
  plays = λ levels le. omega (
    arith,
    are.plays levels le,
    played levels le,
    ap (λ n. levels * n) (sum_below-more group (moves_of wan (closing ∷ earlier))),
    ap (λ n. levels * n) (sum_below-more group (moves_of wan earlier)),
    mul-le-mul_left levels (reached-group wan earlier closing group added standing held),
  );
  moves = omega (
    arith,
    are.moves,
    moved,
    sum_below-more group (places_of wan (closing ∷ earlier)),
    sum_below-more group (places_of wan earlier),
    moved-group wan earlier closing group added standing held,
  );
}

-- at most all path groups are left
pub places-few : (wan : Wan) (closings : List Closing) → places_ahead wan closings ≤ path_groups_in wan.groups
places-few wan closings = sum_below-mono (length wan.groups) (places_of wan closings) (path_group_count wan.groups) (λ group lt. few (path_group_count wan.groups group) (current_path_group_of wan closings group)) where
  few : (count : ℕ) (o : Option ℕ) → places_left count o ≤ count
  few count (Some current) = omega arith
  few count None = omega arith
