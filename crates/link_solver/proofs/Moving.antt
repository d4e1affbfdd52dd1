-- The groups move on at a closing, one after the other.
use Rattle.std.proofs.Common.{◌≡◌, ℕ, ◌+◌, ◌*◌, ◌<◌, ◌≤◌, false, List, ◌∷◌, length, refl, arith, subst, slice_index_or}
use Rattle.bwe_specs.specs.declared.network.Closing.{Closing}
use Rattle.bwe_specs.specs.Bounded.{sum_below}
use Rattle.bwe_specs.specs.Paths.{path_group_at, uses}
use Rattle.bwe_specs.specs.Filling.{Wan, closed_links}
use Rattle.bwe_specs.specs.RightClosings.{last_share}
use Rattle.bwe_specs.specs.Values.{NeverFalls}
use Rattle.bwe_specs.proofs.Bounds.{sum_below-more}
use Rattle.mpfa_fill.specs.declared.standing.Standing.{Standing}
use Rattle.mpfa_fill.specs.declared.standing.Standing.TheVariants.{Grows, Stopped}
use Rattle.mpfa_fill.specs.Standing.{standing_under}
use Rattle.link_solver.specs.declared.due.Due.{Due}
use Rattle.link_solver.specs.Dues.{due_at, IsMarked, Marks}
use Rattle.mpfa_fill.specs.Growth.{HasElsewhere, IsHeld, IsUpOver}
use Rattle.link_front.specs.Moves.{moves_of}
use Rattle.link_front.proofs.Walks.{UsesNot}
use Rattle.link_front.proofs.Moving.{moved-unused as stood-unused}
use Rattle.link_front.proofs.GroupMoves.{moves-same, keeps-path_group}
use Rattle.link_solver.specs.Looks.{looks_in}
use Rattle.link_solver.proofs.Changes.{IsAhead}
use Rattle.link_solver.proofs.Closes.{marked-more}
use Rattle.link_solver.proofs.GroupMoves.{looks-group}

-- the groups below a number are held as they are after the closing, and have marked the dues; the later ones are as before it;
-- what is looked at again comes out of the moves to come
pub record AreMoved (wan : Wan) (earlier : List Closing) (closing : Closing) (added : ℕ → ℕ → ℕ) (first : List Due) (standings : List Standing) (dues : List Due) (count : ℕ) : Type 0 where
  pub gone : (group : ℕ) → group < count → IsHeld wan (closing ∷ earlier) added group (slice_index_or standings group (Stopped 0))
  pub left : (group : ℕ) → count ≤ group → group < length wan.groups → IsHeld wan earlier added group (slice_index_or standings group (Stopped 0))
  pub up : (group : ℕ) → count ≤ group → group < length wan.groups → IsUpOver wan closing.link closing.share group (slice_index_or standings group (Stopped 0))
  pub marked : (link : ℕ) → link < length first → IsMarked wan earlier closing count link (due_at first link) (due_at dues link)
  pub looks : looks_in wan.top dues + 31 * sum_below count (moves_of wan (closing ∷ earlier)) ≤ looks_in wan.top first + 31 * sum_below count (moves_of wan earlier)

-- before any group moves, no link is looked at again ..
pub looks-start : (wan : Wan) (earlier : List Closing) (closing : Closing) (dues : List Due)
    → looks_in wan.top dues + 31 * sum_below 0 (moves_of wan (closing ∷ earlier)) ≤ looks_in wan.top dues + 31 * sum_below 0 (moves_of wan earlier)
unfolding sum_below
looks-start wan earlier closing dues = omega arith

-- .. and each that moves pays for the links of its own path groups
pub looks-next : (wan : Wan) (earlier : List Closing) (closing : Closing) (group : ℕ) (added : ℕ → ℕ → ℕ) (standing : Standing) (first mid new : List Due) → length mid ≡ length wan.capacities
    → IsHeld wan earlier added group standing → Marks wan added group closing standing (standing_under wan.groups group (closed_links (closing ∷ earlier)) closing standing) mid new
    → looks_in wan.top mid + 31 * sum_below group (moves_of wan (closing ∷ earlier)) ≤ looks_in wan.top first + 31 * sum_below group (moves_of wan earlier)
    → looks_in wan.top new + 31 * sum_below (group + 1) (moves_of wan (closing ∷ earlier)) ≤ looks_in wan.top first + 31 * sum_below (group + 1) (moves_of wan earlier)
looks-next wan earlier closing group added standing first mid new each_link held marks so =
    omega (
      arith,
      so,
      looks-group wan earlier closing group added standing mid new each_link held marks,
      sum_below-more group (moves_of wan (closing ∷ earlier)),
      sum_below-more group (moves_of wan earlier),
    )

-- a group that does not use the closed link marks nothing
marks-none : (wan : Wan) (added : ℕ → ℕ → ℕ) (group : ℕ) (closing : Closing) (standing after : Standing) (dues : List Due) → UsesNot wan.groups closing.link group → Marks wan added group closing standing after dues dues
marks-none wan added group closing (Grows place base) after dues unused = (λ used. let not : uses (path_group_at wan.groups group place) closing.link ≡ false = unused place in absurd (cc), λ _. refl)
marks-none wan added group closing (Stopped at) after dues unused = refl

module _ (wan : Wan) (never_falls : NeverFalls wan) (earlier : List Closing) (closing : Closing) (last : last_share earlier ≤ closing.share) (below : closing.share ≤ wan.top) (added : ℕ → ℕ → ℕ) (elsewhere : HasElsewhere wan earlier added) (elsewhere_after : HasElsewhere wan (closing ∷ earlier) added) where
  pub moved-unused : (first : List Due) → ((link : ℕ) → link < length first → IsAhead wan closing (due_at first link)) → (standings : List Standing) (dues : List Due) (group : ℕ) → group < length wan.groups → UsesNot wan.groups closing.link group
      → AreMoved wan earlier closing added first standings dues group → AreMoved wan earlier closing added first standings dues (group + 1)
  moved-unused first ahead standings dues group lt unused are =
      let standing : Standing = slice_index_or standings group (Stopped 0) in
      let held : IsHeld wan earlier added group standing = are.left group (omega arith) lt in
      let more = stood-unused wan never_falls earlier closing last below added elsewhere standings group lt unused (record { gone = are.gone; left = are.left; up = are.up }) in
      record {
        gone = more.gone;
        left = more.left;
        up = more.up;
        marked = λ link within.
            marked-more wan never_falls earlier closing last below added elsewhere elsewhere_after group link standing (due_at first link) dues dues (ahead link within) held (are.up group (omega arith) lt)
            (subst (λ after. Marks wan added group closing standing after dues dues) refl (marks-none wan added group closing standing (standing_under wan.groups group (closed_links (closing ∷ earlier)) closing standing) dues unused)) (are.marked link within);
        looks = omega (
          arith,
          are.looks,
          moves-same wan earlier closing group (keeps-path_group wan earlier closing group (λ place current. unused place)),
          sum_below-more group (moves_of wan (closing ∷ earlier)),
          sum_below-more group (moves_of wan earlier),
        );
      }
