-- What holds at a closing of a list, and of the closings before it.
use Rattle.std.proofs.Common.{◌≡◌, ℕ, true, List, [], ◌∷◌, ◌++◌, Some, None, is_none, refl, ◌∙◌, ap, nat_eq, slice_index_or, eq-eqb, if◌then◌else◌}
use Rattle.std.specs.List.{list_any}
use Rattle.std.proofs.Math.Bool.{or-true}
use Rattle.bwe_specs.specs.declared.network.Closing.{Closing}
use Rattle.bwe_specs.specs.Filling.{Wan, closed_links, current_path_group_of, stop_share}
use Rattle.bwe_specs.specs.RightClosings.{AreRight}
use Rattle.bwe_specs.proofs.StopShares.{stop-moving}

-- of right closings those up to one are right
pub right-upto : (wan : Wan) (later : List Closing) (closing : Closing) (earlier : List Closing) → AreRight wan (later ++ closing ∷ earlier) → AreRight wan (closing ∷ earlier)
right-upto wan [] closing earlier right = right
right-upto wan (last ∷ later) closing earlier right = right-upto wan later closing earlier right.0

-- a closing's link is closed from then on
pub closed-later : (later : List Closing) (closing : Closing) (earlier : List Closing) → list_any (nat_eq closing.link) (closed_links (later ++ closing ∷ earlier)) ≡ true
closed-later [] closing earlier = rw (eq-eqb closing.link closing.link refl) refl
closed-later (last ∷ later) closing earlier = rw (closed-later later closing earlier) (or-true (nat_eq closing.link last.link))

-- a group that a closing leaves without a path group stops at the closing's share
pub stop-at : (wan : Wan) (later : List Closing) (closing : Closing) (earlier : List Closing) (group q until : ℕ) → current_path_group_of wan earlier group ≡ Some q
    → current_path_group_of wan (closing ∷ earlier) group ≡ None → stop_share (slice_index_or wan.groups group []) (later ++ closing ∷ earlier) until ≡ closing.share
unfolding stop_share
stop-at wan [] closing earlier group q until before after =
    ap (λ o. stop_share (slice_index_or wan.groups group []) earlier (if is_none o then closing.share else until)) after ∙ stop-moving wan earlier group q closing.share before
stop-at wan (last ∷ later) closing earlier group q until before after =
    stop-at wan later closing earlier group q
    (if is_none (current_path_group_of wan (last ∷ (later ++ closing ∷ earlier)) group) then last.share else until) before after
