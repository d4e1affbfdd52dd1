-- How often groups still come to path groups and leave them.
use Rattle.std.proofs.Common.{◌≡◌, ℕ, zero, suc, ◌+◌, ◌*◌, ◌<◌, ◌≤◌, ◌≢◌, Bool, true, false, List, [], ◌∷◌, length, Option, Some, None, refl, sym, ◌∙◌, ap, arith, subst, inl, inr, if◌then◌else◌, nat_lt, nat_eq, slice_index_or, lt-ltb, le-ltb, eq-eqb, ne_eqb}
use Rattle.std.proofs.lemmas.Bool.{cases_eq, cases_lt}
use Rattle.std.proofs.Math.Nat.{mul-le-mul_right}
use Rattle.bwe_specs.specs.declared.network.Closing.{Closing}
use Rattle.bwe_specs.specs.Bounded.{sum_below}
use Rattle.bwe_specs.specs.Paths.{PathGroup, PathGroups, path_group_at, path_group_count, uses, is_open, current_path_group}
use Rattle.bwe_specs.specs.Filling.{Wan, closed_links, current_path_group_of}
use Rattle.bwe_specs.proofs.Bounds.{sum_below-mono, sum_below-zero, sum_below-term, lowest-some}
use Rattle.bwe_specs.proofs.Loads.{current-open}
use Rattle.bwe_specs.proofs.StopShares.{none-more, open-fewer}
use Rattle.bwe_specs.proofs.Sums.{sum_below-room}
use Rattle.mpfa_fill.proofs.Closed.{some-more}
use Rattle.link_front.specs.Moves.{links_of, links_over_all, moves_at, moves_of, moves_ahead}

-- one that uses a closed link is not
not-open : (link : ℕ) (closed : List ℕ) (path_group : PathGroup) → uses path_group link ≡ true → is_open (link ∷ closed) path_group ≡ false
unfolding is_open
not-open link closed path_group used = rw used refl

-- a group goes on with a later path group
pub goes-later : (path_groups : PathGroups) (link : ℕ) (closed : List ℕ) (place next : ℕ) → current_path_group path_groups closed ≡ Some place → uses (slice_index_or path_groups place []) link ≡ true
    → current_path_group path_groups (link ∷ closed) ≡ Some next → place < next
unfolding current_path_group
goes-later path_groups link closed place next before used after =
    let old = lowest-some (length path_groups) (λ k. is_open closed (slice_index_or path_groups k [])) place before in
    let new = lowest-some (length path_groups) (λ k. is_open (link ∷ closed) (slice_index_or path_groups k [])) next after in
    elim (cases_lt place next) [
      | inl lt ↦ lt
      | inr le ↦ elim (cases_eq next place) [
        | inl e ↦
            let shut : is_open (link ∷ closed) (slice_index_or path_groups next []) ≡ false = subst (λ k. is_open (link ∷ closed) (slice_index_or path_groups k []) ≡ false) (sym e) (not-open link closed (slice_index_or path_groups place []) used) in
            let opened = new.passes in
            absurd (cc)
        | inr other ↦
            let shut = old.none_lower next (omega (arith, le, other)) in
            let opened = open-fewer link closed (slice_index_or path_groups next []) new.passes in
            absurd (cc)
      ]
    ]

-- an earlier path group no more, the current one once, a later one twice
moves-before : (current place : ℕ) → place < current → moves_at (Some current) place ≡ 0
moves-before current place lt = rw (lt-ltb place current lt) refl

moves-here : (current place : ℕ) → place ≡ current → moves_at (Some current) place ≡ 1
moves-here current place e = rw (le-ltb place current (omega (arith, e)), eq-eqb place current e) refl

moves-after : (current place : ℕ) → current < place → moves_at (Some current) place ≡ 2
moves-after current place lt = rw (le-ltb place current (omega (arith, lt)), ne_eqb place current (λ e. absurd (omega (arith, lt, e)))) refl

moves-most : (o : Option ℕ) (place : ℕ) → moves_at o place ≤ 2
moves-most None place = omega arith
moves-most (Some current) place = go (nat_lt place current) (nat_eq place current) where
  go : (before here : Bool) → (if before then 0 else if here then 1 else 2) ≤ 2
  go true here = omega arith
  go false true = omega arith
  go false false = omega arith

times-le : (a b c : ℕ) → a ≤ b → a * c ≤ b * c
times-le a b c le = mul-le-mul_right c le

-- no path group: no link
pub none-used : (links : ℕ) → links_of links [] ≡ 0
unfolding uses
none-used links = sum_below-zero links (λ link. if uses [] link then 1 else 0) (λ link lt. refl)

-- a sum of so many times as much
pub sum_below-times : (n times : ℕ) (f : ℕ → ℕ) → sum_below n (λ i. times * f i) ≡ times * sum_below n f
unfolding sum_below
sum_below-times zero times f = omega arith
sum_below-times (suc n) times f = omega (arith, sum_below-times n times f)

module _ (wan : Wan) (group : ℕ) where
  abbrev pub links_at : ℕ → ℕ
  links_at place = links_of (length wan.capacities) (path_group_at wan.groups group place)

  -- what is still to come where the group is on this path group
  abbrev pub to_come : Option ℕ → ℕ
  to_come o = sum_below (path_group_count wan.groups group) (λ place. moves_at o place * links_at place)

  to_come-none : to_come None ≡ 0
  to_come-none = sum_below-zero (path_group_count wan.groups group) (λ place. moves_at None place * links_at place) (λ place lt. omega arith)

  pub stops : (place : ℕ) → place < path_group_count wan.groups group → to_come None + links_at place ≤ to_come (Some place)
  stops place inside =
      omega (
        arith,
        to_come-none,
        sum_below-term (path_group_count wan.groups group) place (λ k. moves_at (Some place) k * links_at k) inside,
        ap (λ n. n * links_at place) (moves-here place place refl),
      )

  pub goes : (place next : ℕ) → place < next → next < path_group_count wan.groups group → to_come (Some next) + links_at place + links_at next ≤ to_come (Some place)
  goes place next lt inside =
      let count = path_group_count wan.groups group in
      let low : ℕ → ℕ = λ k. moves_at (Some next) k * links_at k in
      let mid : ℕ → ℕ = λ k. (if nat_eq k place then 1 else moves_at (Some next) k) * links_at k in
      let high : ℕ → ℕ = λ k. moves_at (Some place) k * links_at k in
      let first : sum_below count low + links_at place ≤ sum_below count mid =
      sum_below-room count place (links_at place) low mid (omega (arith, lt, inside))
      (λ k kl. times-le (moves_at (Some next) k) (if nat_eq k place then 1 else moves_at (Some next) k) (links_at k) (low_mid k))
      (omega (arith, ap (λ n. n * links_at place) (moves-before next place lt), ap (λ n. n * links_at place) (mid-here))) in
      let second : sum_below count mid + links_at next ≤ sum_below count high =
      sum_below-room count next (links_at next) mid high inside
      (λ k kl. times-le (if nat_eq k place then 1 else moves_at (Some next) k) (moves_at (Some place) k) (links_at k) (mid_high k))
      (omega (arith, ap (λ n. n * links_at next) (mid-next), ap (λ n. n * links_at next) (moves-after place next lt))) in
      omega (arith, first, second) where
        mid-same : (k : ℕ) → k ≡ place → (if nat_eq k place then 1 else moves_at (Some next) k) ≡ 1
        mid-same k e = rw (eq-eqb k place e) refl

        mid-other : (k : ℕ) → k ≢ place → (if nat_eq k place then 1 else moves_at (Some next) k) ≡ moves_at (Some next) k
        mid-other k other = rw (ne_eqb k place other) refl

        mid-here : (if nat_eq place place then 1 else moves_at (Some next) place) ≡ 1
        mid-here = mid-same place refl

        mid-next : (if nat_eq next place then 1 else moves_at (Some next) next) ≡ 1
        mid-next = mid-other next (λ e. absurd (omega (arith, lt, e))) ∙ moves-here next next refl

        low_mid : (k : ℕ) → moves_at (Some next) k ≤ (if nat_eq k place then 1 else moves_at (Some next) k)
        low_mid k = elim (cases_eq k place) [
          | inl e ↦ omega (arith, moves-before next k (omega (arith, e, lt)))
          | inr other ↦ omega (arith, mid-other k other)
        ]

        mid_high : (k : ℕ) → (if nat_eq k place then 1 else moves_at (Some next) k) ≤ moves_at (Some place) k
        mid_high k = elim (cases_eq k place) [
          | inl e ↦ omega (arith, mid-same k e, moves-here place k e)
          | inr other ↦ elim (cases_lt k place) [
            | inl below ↦ omega (arith, mid-other k other, moves-before next k (omega (arith, below, lt)))
            | inr above ↦ omega (arith, mid-other k other, moves-most (Some next) k, moves-after place k (omega (arith, above, other)))
          ]
        ]

  -- at most twice each
  pub to_come-most : (o : Option ℕ) → to_come o ≤ 2 * sum_below (path_group_count wan.groups group) links_at
  to_come-most o =
      omega (
        arith,
        sum_below-mono (path_group_count wan.groups group) (λ place. moves_at o place * links_at place) (λ place. 2 * links_at place) (λ place lt. times-le (moves_at o place) 2 (links_at place) (moves-most o place)),
        sum_below-times (path_group_count wan.groups group) 2 links_at,
      )

-- what is to come of all groups is at most all links of all path groups, twice
pub ahead-few : (wan : Wan) (closings : List Closing) → moves_ahead wan closings ≤ 2 * links_over_all (length wan.capacities) wan.groups
ahead-few wan closings =
    let all : ℕ → ℕ = λ group. sum_below (path_group_count wan.groups group) (links_at wan group) in
    omega (
      arith,
      sum_below-mono (length wan.groups) (moves_of wan closings) (λ group. 2 * all group) (λ group lt. to_come-most wan group (current_path_group_of wan closings group)),
      sum_below-times (length wan.groups) 2 all,
    )

module _ (wan : Wan) (earlier : List Closing) (closing : Closing) (group : ℕ) where
  -- a group that does not grow over the closed link keeps its path group
  pub keeps-path_group : ((place : ℕ) → current_path_group_of wan earlier group ≡ Some place → uses (path_group_at wan.groups group place) closing.link ≡ false)
      → current_path_group_of wan (closing ∷ earlier) group ≡ current_path_group_of wan earlier group
  keeps-path_group unused = go (current_path_group_of wan earlier group) refl where
    go : (o : Option ℕ) → current_path_group_of wan earlier group ≡ o → current_path_group_of wan (closing ∷ earlier) group ≡ current_path_group_of wan earlier group
    go (Some place) e = some-more (slice_index_or wan.groups group []) closing.link (closed_links earlier) place e (unused place e) ∙ sym e
    go None e = none-more (slice_index_or wan.groups group []) closing.link (closed_links earlier) e ∙ sym e

  pub moves-same : current_path_group_of wan (closing ∷ earlier) group ≡ current_path_group_of wan earlier group → moves_of wan (closing ∷ earlier) group ≡ moves_of wan earlier group
  moves-same e = ap (to_come wan group) e

  -- one that does leaves it, and comes to a later one or to none
  pub moves-off : (place : ℕ) → current_path_group_of wan earlier group ≡ Some place → current_path_group_of wan (closing ∷ earlier) group ≡ None
      → moves_of wan (closing ∷ earlier) group + links_at wan group place ≤ moves_of wan earlier group
  moves-off place current next =
      omega (
        arith,
        ap (to_come wan group) current,
        ap (to_come wan group) next,
        stops wan group place (current-open (slice_index_or wan.groups group []) (closed_links earlier) place current).0,
      )

  pub moves-on : (place next : ℕ) → current_path_group_of wan earlier group ≡ Some place → uses (path_group_at wan.groups group place) closing.link ≡ true
      → current_path_group_of wan (closing ∷ earlier) group ≡ Some next
      → moves_of wan (closing ∷ earlier) group + links_at wan group place + links_at wan group next ≤ moves_of wan earlier group
  moves-on place next current used after =
      omega (
        arith,
        ap (to_come wan group) current,
        ap (to_come wan group) after,
        goes wan group place next (goes-later (slice_index_or wan.groups group []) closing.link (closed_links earlier) place next current used after)
            (current-open (slice_index_or wan.groups group []) (closed_links (closing ∷ earlier)) next after).0,
      )

  pub moves-leave : (place : ℕ) → current_path_group_of wan earlier group ≡ Some place → uses (path_group_at wan.groups group place) closing.link ≡ true
      → moves_of wan (closing ∷ earlier) group + links_at wan group place ≤ moves_of wan earlier group
  moves-leave place current used = go (current_path_group_of wan (closing ∷ earlier) group) refl where
    go : (o : Option ℕ) → current_path_group_of wan (closing ∷ earlier) group ≡ o → moves_of wan (closing ∷ earlier) group + links_at wan group place ≤ moves_of wan earlier group
    go (Some next) e = omega (arith, moves-on place next current used e)
    go None e = moves-off place current e
