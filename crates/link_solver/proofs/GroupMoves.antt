-- What is looked at again where a group moves comes out of its moves to come.
use Rattle.std.proofs.Common.{◌≡◌, ℕ, ◌+◌, ◌*◌, ◌≤◌, Bool, true, false, List, [], ◌∷◌, length, Option, Some, None, refl, sym, ◌∙◌, ap, arith, if◌then◌else◌, slice_index_or}
use Rattle.bwe_specs.specs.declared.network.Closing.{Closing}
use Rattle.bwe_specs.specs.Paths.{path_group_at, uses}
use Rattle.bwe_specs.specs.Filling.{Wan, closed_links, current_path_group_of}
use Rattle.bwe_specs.proofs.Loads.{current-open}
use Rattle.bwe_specs.proofs.StopShares.{none-more}
use Rattle.mpfa_fill.specs.declared.standing.Standing.{Standing}
use Rattle.mpfa_fill.specs.declared.standing.Standing.TheVariants.{Grows, Stopped}
use Rattle.mpfa_fill.specs.Standing.{standing_of, standing_under}
use Rattle.mpfa_fill.specs.Growth.{IsHeld}
use Rattle.mpfa_fill.proofs.Closed.{some-more}
use Rattle.link_front.specs.Moves.{links_of, links_over_all, moves_of}
use Rattle.link_front.proofs.GroupMoves.{goes-later, none-used, to_come, stops, goes, moves-same, ahead-few as moves-few}
use Rattle.link_solver.specs.declared.due.Due.{Due}
use Rattle.link_solver.specs.Dues.{MovesTo, Marks}
use Rattle.link_solver.specs.Looks.{looks_in, looks_ahead}
use Rattle.link_solver.proofs.Looks.{looks-all, looks-moved}

module _ (wan : Wan) (earlier : List Closing) (closing : Closing) (group : ℕ) where
  goes-on : (added : ℕ → ℕ → ℕ) (place base : ℕ) (mid new : List Due) → length mid ≡ length wan.capacities → current_path_group_of wan earlier group ≡ Some place → uses (path_group_at wan.groups group place) closing.link ≡ true
      → (next : Option ℕ) → current_path_group_of wan (closing ∷ earlier) group ≡ next
      → MovesTo wan added group closing place base (standing_of next base closing.share) mid new
      → looks_in wan.top new + 31 * to_come wan group next ≤ looks_in wan.top mid + 31 * to_come wan group (Some place)
  goes-on added place base mid new each_link current used None e moved =
      let inside = (current-open (slice_index_or wan.groups group []) (closed_links earlier) place current).0 in
      omega (
        arith,
        looks-moved wan.top (path_group_at wan.groups group place) [] _ _ _ _ _ _ mid new moved,
        ap (λ n. links_of n (path_group_at wan.groups group place)) each_link,
        none-used (length mid),
        stops wan group place inside,
      )
  goes-on added place base mid new each_link current used (Some next) e moved =
      let inside = (current-open (slice_index_or wan.groups group []) (closed_links (closing ∷ earlier)) next e).0 in
      omega (
        arith,
        looks-moved wan.top (path_group_at wan.groups group place) (path_group_at wan.groups group next) _ _ _ _ _ _ mid new moved,
        ap (λ n. links_of n (path_group_at wan.groups group place)) each_link,
        ap (λ n. links_of n (path_group_at wan.groups group next)) each_link,
        goes wan group place next (goes-later (slice_index_or wan.groups group []) closing.link (closed_links earlier) place next current used e) inside,
      )

  grows-on : (added : ℕ → ℕ → ℕ) (place base : ℕ) (mid new : List Due) (used : Bool) → uses (path_group_at wan.groups group place) closing.link ≡ used → length mid ≡ length wan.capacities
      → current_path_group_of wan earlier group ≡ Some place
      → (used ≡ true → MovesTo wan added group closing place base (if used then standing_of (current_path_group_of wan (closing ∷ earlier) group) base closing.share else Grows place base) mid new)
      → (used ≡ false → new ≡ mid)
      → looks_in wan.top new + 31 * moves_of wan (closing ∷ earlier) group ≤ looks_in wan.top mid + 31 * moves_of wan earlier group
  grows-on added place base mid new true used each_link current moved kept =
      omega (
        arith,
        goes-on added place base mid new each_link current used (current_path_group_of wan (closing ∷ earlier) group) refl (moved refl),
        ap (to_come wan group) current,
      )
  grows-on added place base mid new false used each_link current moved kept =
      omega (
        arith,
        ap (looks_in wan.top) (kept refl),
        moves-same wan earlier closing group (some-more (slice_index_or wan.groups group []) closing.link (closed_links earlier) place current used ∙ sym current),
      )

  -- what is looked at again where a group moves comes out of its moves to come
  pub looks-group : (added : ℕ → ℕ → ℕ) (standing : Standing) (mid new : List Due) → length mid ≡ length wan.capacities → IsHeld wan earlier added group standing
      → Marks wan added group closing standing (standing_under wan.groups group (closed_links (closing ∷ earlier)) closing standing) mid new
      → looks_in wan.top new + 31 * moves_of wan (closing ∷ earlier) group ≤ looks_in wan.top mid + 31 * moves_of wan earlier group
  looks-group added (Grows place base) mid new each_link held marks =
      grows-on added place base mid new (uses (path_group_at wan.groups group place) closing.link) refl each_link held.0 marks.0 marks.1
  looks-group added (Stopped at) mid new each_link held marks =
      omega (
        arith,
        ap (looks_in wan.top) marks,
        moves-same wan earlier closing group (none-more (slice_index_or wan.groups group []) closing.link (closed_links earlier) held.0 ∙ sym held.0),
      )

-- so many looks are to come at most, whatever is closed
pub ahead-few : (wan : Wan) (closings : List Closing) (dues : List Due) → length dues ≡ length wan.capacities
    → looks_ahead wan closings dues ≤ 31 * (length wan.capacities + 2 * links_over_all (length wan.capacities) wan.groups)
ahead-few wan closings dues each_link =
    omega (arith, each_link, looks-all wan.top dues (length dues), moves-few wan closings)
