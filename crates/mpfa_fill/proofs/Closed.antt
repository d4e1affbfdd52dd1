-- How a group stands after one more closing.
use Rattle.std.proofs.Common.{◌≡◌, ℕ, ◌+◌, ◌<◌, ◌≤◌, Bool, true, false, not, ◌||◌, List, [], ◌∷◌, length, reverse, Option, Some, None, is_none, refl, sym, ◌∙◌, ap, arith, subst, if◌then◌else◌, nat_eq, slice_index_or, eq-eqb}
use Rattle.std.specs.List.{list_any}
use Rattle.bwe_specs.specs.declared.network.Closing.{Closing}
use Rattle.bwe_specs.specs.Paths.{PathGroup, PathGroups, path_group_at, uses, is_open, current_path_group}
use Rattle.bwe_specs.specs.Filling.{Wan, closed_links, current_path_group_of, is_at, growth, stop_share}
use Rattle.bwe_specs.specs.RightClosings.{last_share, amounts_at}
use Rattle.bwe_specs.specs.Values.{NeverFalls}
use Rattle.bwe_specs.proofs.Growth.{value-mono, is_at-true, growth-on, growth-off}
use Rattle.bwe_specs.proofs.Loads.{current-open, open-unused}
use Rattle.bwe_specs.proofs.Bounds.{some-lowest, lowest-some}
use Rattle.bwe_specs.proofs.StopShares.{none-more, stop-moving}
use Rattle.mpfa_fill.specs.declared.standing.Standing.{Standing}
use Rattle.mpfa_fill.specs.declared.standing.Standing.TheVariants.{Grows, Stopped}
use Rattle.mpfa_fill.specs.Standing.{standing_of, standing_under}
use Rattle.mpfa_fill.specs.Growth.{HasElsewhere, IsHeld, IsUpOver}
use Rattle.mpfa_fill.proofs.Places.{current-reverse}
use Rattle.mpfa_fill.proofs.Growths.{at-some, in_groups}

-- what was shut stays shut
shut-more : (link : ℕ) (closed : List ℕ) (path_group : PathGroup) → is_open closed path_group ≡ false → is_open (link ∷ closed) path_group ≡ false
unfolding is_open
shut-more link closed path_group h = go (uses path_group link) (list_any (uses path_group) closed) h where
  go : (here later : Bool) → not later ≡ false → not (here || later) ≡ false
  go true later shut = refl
  go false later shut = shut

-- what was open stays open where it does not use the link
open-more : (link : ℕ) (closed : List ℕ) (path_group : PathGroup) → uses path_group link ≡ false → is_open closed path_group ≡ true → is_open (link ∷ closed) path_group ≡ true
unfolding is_open
open-more link closed path_group unused h = rw unused h

pub some-more : (path_groups : PathGroups) (link : ℕ) (closed : List ℕ) (place : ℕ) → current_path_group path_groups closed ≡ Some place → uses (slice_index_or path_groups place []) link ≡ false → current_path_group path_groups (link ∷ closed) ≡ Some place
unfolding current_path_group
some-more path_groups link closed place some unused =
    let found = lowest-some (length path_groups) (λ k. is_open closed (slice_index_or path_groups k [])) place some in
    some-lowest (length path_groups) (λ k. is_open (link ∷ closed) (slice_index_or path_groups k [])) place (record {
      below = found.below;
      passes = open-more link closed (slice_index_or path_groups place []) unused found.passes;
      none_lower = λ k lt. shut-more link closed (slice_index_or path_groups k []) (found.none_lower k lt);
    })

-- a path group that is current uses no closed link
current-unused : (wan : Wan) (closing : Closing) (earlier : List Closing) (group place : ℕ) → current_path_group_of wan (closing ∷ earlier) group ≡ Some place → uses (path_group_at wan.groups group place) closing.link ≡ false
current-unused wan closing earlier group place e =
    let member : list_any (nat_eq closing.link) (closed_links (closing ∷ earlier)) ≡ true = rw (eq-eqb closing.link closing.link refl) refl in
    open-unused (path_group_at wan.groups group place) (closed_links (closing ∷ earlier)) closing.link
    (current-open (slice_index_or wan.groups group []) (closed_links (closing ∷ earlier)) place e).1 member

module _ (wan : Wan) (never : NeverFalls wan) (earlier : List Closing) (closing : Closing) (last : last_share earlier ≤ closing.share) (below : closing.share ≤ wan.top) (added : ℕ → ℕ → ℕ) (elsewhere : HasElsewhere wan earlier added) where
  after : (group place share : ℕ) → amounts_at wan (closing ∷ earlier) share group place ≡ amounts_at wan earlier closing.share group place + growth wan (closing ∷ earlier) closing.share share group place
  unfolding amounts_at
  after group place share = refl

  -- the group goes on with another path group, or stops ..
  goes-on : (group place base : ℕ) → IsHeld wan earlier added group (Grows place base) → uses (path_group_at wan.groups group place) closing.link ≡ true → base ≡ wan.value group closing.share
      → (o : Option ℕ) → current_path_group_of wan (closing ∷ earlier) group ≡ o → IsHeld wan (closing ∷ earlier) added group (standing_of o base closing.share)
  unfolding stop_share
  goes-on group place base held used up None e = (e, λ until. rw e (stop-moving wan earlier group place closing.share held.0))
  goes-on group place base held used up (Some next) e = (e, held.1, λ share from upto. there share from upto) where
    off : (at : Bool) → is_at (current_path_group_of wan earlier group) next ≡ at → at ≡ false
    off false h = refl
    off true h =
        let some : Some place ≡ Some next = sym held.0 ∙ is_at-true (current_path_group_of wan earlier group) next h in
        let same : place ≡ next = cc in
        let unused : uses (path_group_at wan.groups group next) closing.link ≡ false = current-unused wan closing earlier group next e in
        let used_too : uses (path_group_at wan.groups group next) closing.link ≡ true = subst (λ k. uses (path_group_at wan.groups group k) closing.link ≡ true) same used in
        absurd (cc)

    there : (share : ℕ) → closing.share ≤ share → share ≤ wan.top → amounts_at wan (closing ∷ earlier) share group next + base ≡ added group next + wan.value group share
    there share from upto =
        omega (
          arith,
          after group next share,
          growth-on wan (closing ∷ earlier) closing.share share group next (at-some (current_path_group_of wan (closing ∷ earlier) group) next e),
          elsewhere group next closing.share (off (is_at (current_path_group_of wan earlier group) next) refl) last below,
          value-mono wan never group closing.share share from upto,
          up,
        )

  -- .. or it keeps its path group
  grows-after : (group place base : ℕ) (used : Bool) → uses (path_group_at wan.groups group place) closing.link ≡ used → IsHeld wan earlier added group (Grows place base) → (used ≡ true → base ≡ wan.value group closing.share)
      → IsHeld wan (closing ∷ earlier) added group (if used then standing_of (current_path_group_of wan (closing ∷ earlier) group) base closing.share else Grows place base)
  grows-after group place base true used held up = goes-on group place base held used (up refl) (current_path_group_of wan (closing ∷ earlier) group) refl
  grows-after group place base false unused held up =
      let current = some-more (slice_index_or wan.groups group []) closing.link (closed_links earlier) place held.0 unused in (
        current,
        held.1,
        λ share from upto.
            omega (
              arith,
              after group place share,
              growth-on wan (closing ∷ earlier) closing.share share group place (at-some (current_path_group_of wan (closing ∷ earlier) group) place current),
              held.2 closing.share last below,
              value-mono wan never group closing.share share from upto,
            ),
      )

  pub held-after : (group : ℕ) (standing : Standing) → IsHeld wan earlier added group standing → IsUpOver wan closing.link closing.share group standing
      → IsHeld wan (closing ∷ earlier) added group (standing_under wan.groups group (closed_links (closing ∷ earlier)) closing standing)
  unfolding stop_share
  held-after group (Grows place base) held up =
      grows-after group place base (uses (path_group_at wan.groups group place) closing.link) refl held up
  held-after group (Stopped at) held up = (
    none-more (slice_index_or wan.groups group []) closing.link (closed_links earlier) held.0,
    λ until. held.1 (if is_none (current_path_group_of wan (closing ∷ earlier) group) then closing.share else until),
  )

  -- where a group does not grow any more, it has what was added
  left-there : (group place : ℕ) (standing : Standing) → IsHeld wan earlier added group standing → IsUpOver wan closing.link closing.share group standing → current_path_group_of wan earlier group ≡ Some place
      → is_at (current_path_group_of wan (closing ∷ earlier) group) place ≡ false → amounts_at wan earlier closing.share group place ≡ added group place
  left-there group place (Stopped at) held up current gone = let no : Some place ≡ None = sym current ∙ held.0 in absurd (cc)
  left-there group place (Grows found base) held up current gone =
      let some : Some found ≡ Some place = sym held.0 ∙ current in
      let same : found ≡ place = cc in
      subst (λ k. amounts_at wan earlier closing.share group k ≡ added group k) same (go (uses (path_group_at wan.groups group found) closing.link) refl same) where
        go : (used : Bool) → uses (path_group_at wan.groups group found) closing.link ≡ used → found ≡ place → amounts_at wan earlier closing.share group found ≡ added group found
        go true used same = omega (arith, held.2 closing.share last below, up used)
        go false unused same =
            let keeps : current_path_group_of wan (closing ∷ earlier) group ≡ Some found = some-more (slice_index_or wan.groups group []) closing.link (closed_links earlier) found held.0 unused in
            let on : is_at (current_path_group_of wan (closing ∷ earlier) group) place ≡ true = at-some (current_path_group_of wan (closing ∷ earlier) group) place (keeps ∙ ap Some same) in
            absurd (cc)

  pub elsewhere-after : (standing : ℕ → Standing) → ((group : ℕ) → group < length wan.groups → IsHeld wan earlier added group (standing group)) → ((group : ℕ) → group < length wan.groups → IsUpOver wan closing.link closing.share group (standing group))
      → HasElsewhere wan (closing ∷ earlier) added
  elsewhere-after standing held up group place share off from upto =
      omega (arith, after group place share, growth-off wan (closing ∷ earlier) closing.share share group place off, go (is_at (current_path_group_of wan earlier group) place) refl) where
        go : (at : Bool) → is_at (current_path_group_of wan earlier group) place ≡ at → amounts_at wan earlier closing.share group place ≡ added group place
        go false e = elsewhere group place closing.share e last below
        go true e =
            let current = is_at-true (current_path_group_of wan earlier group) place e in
            let lt = in_groups wan group place (current-open (slice_index_or wan.groups group []) (closed_links earlier) place current).0 in
            left-there group place (standing group) (held group lt) (up group lt) current off

-- the order of the closings does not matter for how a group goes on
pub under-reverse : (groups : List PathGroups) (group : ℕ) (closings : List Closing) (closing : Closing) (standing : Standing) → standing_under groups group (closed_links closings) closing standing ≡ standing_under groups group (closed_links (reverse closings)) closing standing
under-reverse groups group closings closing (Grows place value) =
    ap (λ o. if uses (path_group_at groups group place) closing.link then standing_of o value closing.share else Grows place value)
    (sym (current-reverse (slice_index_or groups group []) closings))
under-reverse groups group closings closing (Stopped at) = refl
