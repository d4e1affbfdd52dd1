-- The numbers and the links of a filling's table are those that a text can tell.
use Rattle.std.proofs.Common.{ℕ, ◌-◌, ◌<◌, ◌≤◌, ◌^◌, Bool, true, false, List, [], ◌∷◌, length, map, reverse, slice_index_or, Option, Some, None, IfSome, is_none, if◌then◌else◌, sym, subst, arith, zero-add}
use Rattle.std.specs.List.{All}
use Rattle.std.proofs.lemmas.List.{get_or-reverse, length-reverse}
use Rattle.std.proofs.lemmas.List.Elements.{All-cons, All-head, All-nil, All-tail}
use Rattle.std.proofs.lemmas.List.FromFn.{length-map-range_with_len, get_or-map-range_with_len}
use Rattle.bwe_specs.specs.declared.network.Closing.{Closing}
use Rattle.bwe_specs.specs.Bounded.{found_or}
use Rattle.bwe_specs.specs.Paths.{PathGroup, PathGroups, path_group_at, path_group_count, uses, current_path_group, link_load}
use Rattle.bwe_specs.specs.Filling.{Wan, filling, closed_links, closed_by, stop_share}
use Rattle.bwe_specs.specs.RightClosings.{AreRight}
use Rattle.bwe_specs.specs.Reports.{numbers}
use Rattle.bwe_specs.specs.Values.{NeverFalls}
use Rattle.bwe_specs.specs.Allocation.{Plan, PlaceLine, Table, group_line, table_under, wan_under}
use Rattle.bwe_specs.proofs.Bounds.{sum_below-term}
use Rattle.bwe_specs.proofs.Certificates.{filling-right}
use Rattle.bwe_specs.proofs.Loads.{fits-each}
use Rattle.bwe_specs.proofs.Steps.{filling-sound}
use Rattle.doc_names.specs.NameTexts.{NameTexts}
use Rattle.table_laws.specs.Printing.{IsNamed, IsNamedClosing, IsNamedLine, IsNamedPlace, IsToldByItsText}
use Rattle.table_laws.proofs.Asked.{amount-at_most}
use Rattle.table_laws.proofs.Printed.{one-text}

-- what holds of each number holds of a list by number
all-numbers : {X : Type 0} (P : X → Type 0) (f : ℕ → X) (n : ℕ) → ((i : ℕ) → i < n → P (f i)) → All P (map f (numbers n))
all-numbers P f n each i d lt =
    let within : i < n = omega (arith, length-map-range_with_len f 0 n, lt) in
    subst P (sym (get_or-map-range_with_len f 0 n i i d within (zero-add i))) (each i within)

pub all-reverse : {X : Type 0} (P : X → Type 0) (xs : List X) → All P xs → All P (reverse xs)
all-reverse P xs all i d lt =
    let within : i < length xs = omega (arith, length-reverse xs, lt) in
    subst P (sym (get_or-reverse xs i d within)) (all (length xs - 1 - i) d (omega (arith, within)))

-- a closing of a link among so many, below a share
record IsWithin (links top : ℕ) (closing : Closing) : Type 0 where
  pub link : closing.link < links
  pub share : closing.share < top

right-within : (wan : Wan) (closings : List Closing) → AreRight wan closings → All (IsWithin (length wan.capacities) wan.top) closings
right-within wan [] right = All-nil (IsWithin (length wan.capacities) wan.top)
right-within wan (closing ∷ earlier) right =
    let here : IsWithin (length wan.capacities) wan.top closing = record { link = right.1.link_exists; share = right.1.below_top } in
    All-cons (IsWithin (length wan.capacities) wan.top) closing earlier here (right-within wan earlier right.0)

some-found : (links link : ℕ) (earlier : Option ℕ) (b : Bool) → link < links → IfSome earlier (λ found. found < links) → IfSome (found_or earlier b link) (λ found. found < links)
unfolding found_or
some-found links link None true lt is = lt
some-found links link None false lt is = tt
some-found links link (Some found) b lt is = is

-- what closed a path group is a link
closed-within : (links top : ℕ) (path_group : PathGroup) (closings : List Closing) → All (IsWithin links top) closings → IfSome (closed_by path_group closings) (λ link. link < links)
unfolding closed_by
closed-within links top path_group [] all = tt
closed-within links top path_group (closing ∷ earlier) all =
    some-found links closing.link (closed_by path_group earlier) (uses path_group closing.link) (All-head (IsWithin links top) closing earlier all).link
    (closed-within links top path_group earlier (All-tail (IsWithin links top) closing earlier all))

-- a group stops by the top
stop-within : (links top : ℕ) (path_groups : PathGroups) (closings : List Closing) (until : ℕ) → All (IsWithin links top) closings → until ≤ top → stop_share path_groups closings until ≤ top
unfolding stop_share
stop-within links top path_groups [] until all le = le
stop-within links top path_groups (closing ∷ earlier) until all le =
    stop-within links top path_groups earlier _ (All-tail (IsWithin links top) closing earlier all)
    (go (is_none (current_path_group path_groups (closed_links (closing ∷ earlier)))))
  where
    go : (b : Bool) → (if b then closing.share else until) ≤ top
    go true = omega (arith, (All-head (IsWithin links top) closing earlier all).share)
    go false = le

-- what is filled has few shares, small values and small capacities
pub record IsSmall (wan : Wan) : Type 0 where
  pub never : NeverFalls wan
  pub top : wan.top < 2 ^ 64
  pub values : (group : ℕ) → group < length wan.groups → wan.value group wan.top < 2 ^ 64
  pub capacities : All (λ capacity. capacity < 2 ^ 64) wan.capacities

module _ (wan : Wan) (small : IsSmall wan) (names : NameTexts) (many : length wan.capacities ≤ length names.links) where
  within : All (IsWithin (length wan.capacities) wan.top) (filling wan).closings
  within = right-within wan (filling wan).closings (filling-right wan small.never).0

  named-closings : All (IsNamedClosing names) (reverse (filling wan).closings)
  named-closings =
      all-reverse (IsNamedClosing names) (filling wan).closings
      (λ i d lt. record { link = omega (arith, (within i d lt).link, many); share = omega (arith, (within i d lt).share, small.top) })

  named-loads : All (λ load. load < 2 ^ 64) (map (link_load wan.groups (filling wan).amounts) (numbers (length wan.capacities)))
  named-loads =
      all-numbers (λ load. load < 2 ^ 64) (link_load wan.groups (filling wan).amounts) (length wan.capacities)
      (λ link lt. omega (arith, fits-each wan.groups wan.capacities (filling wan).amounts (filling-sound wan small.never).fits link lt, small.capacities link 0 lt))

  abbrev place : ℕ → ℕ → PlaceLine
  place group at = record { amount = (filling wan).amounts group at; closed = closed_by (path_group_at wan.groups group at) (filling wan).closings }

  wide : (link : Option ℕ) → IfSome link (λ link. link < length wan.capacities) → IfSome link (λ link. link < length names.links)
  wide None is = tt
  wide (Some link) is = omega (arith, is, many)

  named-place : (group at : ℕ) → group < length wan.groups → at < path_group_count wan.groups group → IsNamedPlace names (place group at)
  named-place group at gl lt = record {
    amount =
        omega (arith, sum_below-term (path_group_count wan.groups group) at ((filling wan).amounts group) lt, amount-at_most wan small.never group, small.values group gl);
    closed = wide (closed_by (path_group_at wan.groups group at) (filling wan).closings)
        (closed-within (length wan.capacities) wan.top (path_group_at wan.groups group at) (filling wan).closings within);
  }

  named-lines : All (IsNamedLine names) (map (group_line wan (filling wan)) (numbers (length wan.groups)))
  named-lines =
      all-numbers (IsNamedLine names) (group_line wan (filling wan)) (length wan.groups)
      (λ group lt. record {
        share = omega (arith, stop-within (length wan.capacities) wan.top (slice_index_or wan.groups group []) (filling wan).closings wan.top within (omega arith), small.top);
        amount = omega (arith, amount-at_most wan small.never group, small.values group lt);
        places = all-numbers (IsNamedPlace names) (place group) (path_group_count wan.groups group) (λ at within. named-place group at lt within);
      })

-- a table of few reports and small limits is told by its text
module _ (plan : Plan) (prefix : ℕ) (demand : ℕ → ℕ) (capacities : List ℕ) (small : IsSmall (wan_under plan demand capacities)) (few : prefix < 2 ^ 64)
    (limits : All (λ limit. limit < 2 ^ 64) (table_under plan prefix demand capacities).limits) where
  abbrev wan : Wan
  wan = wan_under plan demand capacities

  abbrev table : Table
  table = table_under plan prefix demand capacities

  named : (names : NameTexts) → length capacities ≤ length names.links → IsNamed names table
  named names many = record {
    prefix = few;
    closings = named-closings wan small names many;
    loads = named-loads wan small names many;
    groups = named-lines wan small names many;
    limits = limits;
  }

  pub told-by_text : IsToldByItsText (length capacities) table
  told-by_text = record {
    alone = λ names telling many other is more same. one-text names telling table other (named names many) is more same;
    whole = λ names telling many other is more same. one-text names telling other table is (named names many) more same;
  }
