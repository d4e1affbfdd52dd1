-- Groups that meet at a link stand at one share there.
use Rattle.std.proofs.Common.{◌≡◌, ℕ, zero, suc, ◌<◌, List, [], ◌∷◌, length, map, sum, slice_index_or, Some, refl, sym, ◌∙◌, ap, subst, arith, zero-add}
use Rattle.std.proofs.lemmas.List.FromFn.{get_or-map-range_with_len}
use Rattle.bwe_specs.specs.declared.network.Closing.{Closing}
use Rattle.bwe_specs.specs.Paths.{PathGroups, path_group_at, path_group_count}
use Rattle.bwe_specs.specs.Filling.{Wan, State, filling, closed_links, current_path_group_of, group_stop, closed_by}
use Rattle.bwe_specs.specs.RightClosings.{AreRight}
use Rattle.bwe_specs.specs.Reports.{numbers}
use Rattle.bwe_specs.specs.Values.{NeverFalls}
use Rattle.bwe_specs.specs.Allocation.{PlaceLine, group_line}
use Rattle.bwe_specs.proofs.Certificates.{filling-right}
use Rattle.bwe_specs.proofs.Loads.{current-open}
use Rattle.bwe_specs.proofs.StopShares.{amount-at_stop, filling-amount}
use Rattle.table_laws.specs.Tables.{IsSharedAlike, line_at}
use Rattle.bwe_specs.proofs.Sums.{sum_by-numbers}
use Rattle.bwe_specs.proofs.StopShares.{stop-moving}
use Rattle.table_laws.proofs.Closings.{right-upto, stop-at}

-- a sum over a list by number
-- the line of a group among all lines
pub line-at : (wan : Wan) (final : State) (group : ℕ) → group < length wan.groups
    → line_at (map (group_line wan final) (numbers (length wan.groups))) group ≡ group_line wan final group
line-at wan final group lt = get_or-map-range_with_len (group_line wan final) 0 (length wan.groups) group group _ lt (zero-add group)

-- who has a path group is one of the groups
pub in-groups : (wan : Wan) (group : ℕ) → 0 < path_group_count wan.groups group → group < length wan.groups
in-groups wan group some = go wan.groups group some where
  go : (groups : List PathGroups) (group : ℕ) → 0 < length (slice_index_or groups group []) → group < length groups
  go [] group some = absurd (omega (arith, some))
  go (path_groups ∷ groups) zero some = omega arith
  go (path_groups ∷ groups) (suc group) some = omega (arith, go groups group some)

-- who grows has a path group
pub some-path_group : (wan : Wan) (closings : List Closing) (group place : ℕ) → current_path_group_of wan closings group ≡ Some place → 0 < path_group_count wan.groups group
some-path_group wan closings group place is = omega (arith, (current-open (slice_index_or wan.groups group []) (closed_links closings) place is).0)

abbrev place_line : Wan → State → ℕ → ℕ → PlaceLine
place_line wan final group place = record { amount = final.amounts group place; closed = closed_by (path_group_at wan.groups group place) final.closings }

places-sum : (wan : Wan) (final : State) (group : ℕ) → sum (map (λ place. place.amount) (group_line wan final group).places) ≡ (group_line wan final group).amount
places-sum wan final group =
    ap sum (same (numbers (path_group_count wan.groups group))) ∙ sum_by-numbers (λ k. k) (final.amounts group) (path_group_count wan.groups group)
  where
    same : (places : List ℕ) → map (λ (line : PlaceLine). line.amount) (map (λ place. place_line wan final group place) places) ≡ map (final.amounts group) places
    same [] = refl
    same (place ∷ places) = ap (λ list. final.amounts group place ∷ list) (same places)

pub shared-alike : (wan : Wan) → NeverFalls wan → ((group : ℕ) → wan.value group 0 ≡ 0)
    → IsSharedAlike wan (map (group_line wan (filling wan)) (numbers (length wan.groups))) (filling wan).closings
shared-alike wan never starts = record {
  sums = λ group lt.
      let line = line-at wan (filling wan) group lt in
      ap (λ line. sum (map (λ place. place.amount) line.places)) line ∙ places-sum wan (filling wan) group ∙ sym (ap (λ line. line.amount) line);
  at_stop = λ group some.
      let line = line-at wan (filling wan) group (in-groups wan group some) in
      ap (λ line. line.amount) line ∙ filling-amount wan never group (starts group) some ∙ sym (ap (λ line. wan.value group line.share) line);
  at_closing = λ closing earlier stands group grows.
      let right = right-upto wan stands.later closing earlier (subst (AreRight wan) stands.stands (filling-right wan never).0) in
      amount-at_stop wan never group (starts group) (some-path_group wan earlier group grows.place grows.current) earlier closing.share right.0 right.1.share_keeps
      (omega (arith, right.1.below_top))
      ∙ ap (wan.value group) (stop-moving wan earlier group grows.place closing.share grows.current);
  stopped = λ closing earlier stands group grows none.
      let line = line-at wan (filling wan) group (in-groups wan group (some-path_group wan earlier group grows.place grows.current)) in
      ap (λ line. line.share) line
      ∙ subst (λ closings. group_stop wan (record { share = 0; closings = closings; amounts = λ group place. 0 }) group ≡ closing.share) (sym stands.stands)
      (stop-at wan stands.later closing earlier group grows.place wan.top grows.current none);
}
