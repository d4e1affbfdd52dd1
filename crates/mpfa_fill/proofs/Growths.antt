-- Groups come up to their values at a share, under the same closings.
use Rattle.std.proofs.Common.{◌≡◌, ℕ, ◌+◌, ◌-◌, ◌<◌, ◌≤◌, Bool, true, false, List, [], length, Option, Some, None, refl, sym, ◌∙◌, ap, arith, le_refl, subst, inl, inr, slice_index_or, set, eq-eqb}
use mathlib.Core.Path.{fun_ext}
use Rattle.std.proofs.lemmas.Bool.{cases_eq, cases_lt}
use Rattle.std.proofs.Math.ListN.{get_or-eq_default}
use Rattle.std.proofs.lemmas.List.{get_or-set_same, get_or-set_other, length-set}
use Rattle.bwe_specs.specs.declared.limits.TheConstants.{MAX_TOTAL}
use Rattle.bwe_specs.specs.declared.network.Closing.{Closing}
use Rattle.bwe_specs.specs.Bounded.{sum_below}
use Rattle.bwe_specs.specs.Paths.{PathGroups, path_group_count, is_open, current_path_group}
use Rattle.bwe_specs.specs.Filling.{Wan, closed_links, current_path_group_of, is_at, group_amount, stop_share}
use Rattle.bwe_specs.specs.RightClosings.{last_share, amounts_at}
use Rattle.bwe_specs.specs.Values.{NeverFalls}
use Rattle.bwe_specs.proofs.Bounds.{sum_below-mono, lowest-none}
use Rattle.bwe_specs.proofs.Growth.{value-mono, is_at-true, growth-on, growth-off}
use Rattle.bwe_specs.proofs.Loads.{current-open}
use Rattle.bwe_specs.proofs.Totals.{total}
use Rattle.bwe_specs.proofs.Sums.{sum_below-room}
use Rattle.link_sums.specs.Sums.{Sums, amount_at, IsSummedOver}
use Rattle.mpfa_fill.specs.GroupValues.{Values, wan_of}
use Rattle.mpfa_fill.specs.declared.standing.Standing.{Standing}
use Rattle.mpfa_fill.specs.declared.standing.Standing.TheVariants.{Grows, Stopped}
use Rattle.mpfa_fill.specs.Standing.{IsPlaced, standing_of, stop_of}
use Rattle.bwe_specs.proofs.StopShares.{stop-moving}
use Rattle.mpfa_fill.proofs.Moves.{amounts_at-current}
use Rattle.mpfa_fill.proofs.Order.{order-le, all-le}
use Rattle.mpfa_fill.specs.Growth.{AreInOrder, HasElsewhere, IsHeld, IsGrowthOf, IsUp, IsUpOver, KeepsNetwork, wan_in}
use Rattle.mpfa_fill.specs.declared.growth.Growth.{Growth}

-- a path group is where the group grows, or not
pub at-some : (o : Option ℕ) (place : ℕ) → o ≡ Some place → is_at o place ≡ true
unfolding is_at
at-some o place e = rw e (eq-eqb place place refl)

at-found : (o : Option ℕ) (found place : ℕ) → o ≡ Some found → place ≡ found → is_at o place ≡ false → ⊥
unfolding is_at
at-found o found place e same off = let on : is_at o place ≡ true = rw (e, same) (eq-eqb found found refl) in absurd (cc)

module _ (wan : Wan) (never : NeverFalls wan) (closings : List Closing) (order : AreInOrder wan closings) (added : ℕ → ℕ → ℕ) (elsewhere : HasElsewhere wan closings added) where
  -- what was added of a group is within what it has at the top
  added-le : (group : ℕ) (standing : Standing) → IsHeld wan closings added group standing → (place : ℕ) → added group place ≤ amounts_at wan closings wan.top group place
  added-le group standing held place = go standing held (is_at (current_path_group_of wan closings group) place) refl where
    go : (standing : Standing) → IsHeld wan closings added group standing → (at : Bool) → is_at (current_path_group_of wan closings group) place ≡ at → added group place ≤ amounts_at wan closings wan.top group place
    go standing held false e = omega (arith, elsewhere group place wan.top e (order-le wan closings order) (le_refl wan.top))
    go (Stopped at) held true e =
        let no : Some place ≡ None = sym (is_at-true (current_path_group_of wan closings group) place e) ∙ held.0 in
        absurd (cc)
    go (Grows found base) held true e =
        let some : Some place ≡ Some found = sym (is_at-true (current_path_group_of wan closings group) place e) ∙ held.0 in
        let same : found ≡ place = cc in
        subst (λ k. added group k ≤ amounts_at wan closings wan.top group k) same
        (omega (arith, held.1, held.2 wan.top (order-le wan closings order) (le_refl wan.top)))

  -- so there is room to add what a group has at a share
  pub total-room : (values_at_top : sum_below (length wan.groups) (λ group. wan.value group wan.top) ≤ MAX_TOTAL)
      → ((group : ℕ) → group < length wan.groups → (standing : Standing) × IsHeld wan closings added group standing)
      → (group place base share : ℕ) → group < length wan.groups → IsHeld wan closings added group (Grows place base) → last_share closings ≤ share → share ≤ wan.top
      → total wan added + (wan.value group share - base) ≤ MAX_TOTAL
  total-room together each group place base share lt held last within =
      let x : ℕ → ℕ → ℕ = amounts_at wan closings wan.top in
      let inside = (current-open (slice_index_or wan.groups group []) (closed_links closings) place held.0).0 in
      let rise = amounts_at-current wan never closings share wan.top group place place last (order-le wan closings order) within (le_refl wan.top) held.0 refl in
      let here : added group place + (wan.value group share - base) ≤ x group place =
      omega (arith, held.1, held.2 share last within, held.2 wan.top (order-le wan closings order) (le_refl wan.top), value-mono wan never group share wan.top within (le_refl wan.top)) in
      let row : group_amount wan added group + (wan.value group share - base) ≤ group_amount wan x group =
      sum_below-room (path_group_count wan.groups group) place (wan.value group share - base) (added group) (x group) inside (λ q ql. added-le group (Grows place base) held q) here in
      let all : total wan added + (wan.value group share - base) ≤ total wan x =
      sum_below-room (length wan.groups) group (wan.value group share - base) (group_amount wan added) (group_amount wan x) lt
      (λ h hl. sum_below-mono (path_group_count wan.groups h) (added h) (x h) (λ q ql. added-le h (each h hl).0 (each h hl).1 q)) row in
      omega (arith, all, together, all-le wan never closings wan.top order (order-le wan closings order) (le_refl wan.top))

-- a group is held as before where nothing was added of it
pub held-along : (wan : Wan) (closings : List Closing) (added added' : ℕ → ℕ → ℕ) (group : ℕ) (standing : Standing) → ((place : ℕ) → added' group place ≡ added group place) → IsHeld wan closings added group standing → IsHeld wan closings added' group standing
held-along wan closings added added' group (Stopped at) same held = held
held-along wan closings added added' group (Grows place base) same held = (held.0, held.1, λ share last within. omega (arith, held.2 share last within, same place))

-- the group comes up to its value at a share
pub growth-up : (values : Values) (wan : Wan) → NeverFalls wan → (closings : List Closing) (standings : List Standing) (sums sums' : Sums) → IsGrowthOf values wan closings standings sums → (group place base now share : ℕ) → group < length wan.groups
    → IsHeld wan closings (amount_at sums.amounts) group (Grows place base) → now ≡ wan.value group share → share ≤ wan.top
    → IsSummedOver wan.groups sums' → length sums'.loads ≡ length sums.loads
    → amount_at sums'.amounts group place + base ≡ amount_at sums.amounts group place + now
    → ((group' place' : ℕ) → (group' ≡ group → place' ≡ place → ⊥) → amount_at sums'.amounts group' place' ≡ amount_at sums.amounts group' place')
    → IsGrowthOf values wan closings (set standings group (Grows place now)) sums'
growth-up values wan never closings standings sums sums' growth group place base now share lt held is within summed links amount others = record {
  known = growth.known;
  count = growth.count;
  order = growth.order;
  summed = summed;
  links = links ∙ growth.links;
  elsewhere = λ h q s off last upto.
      growth.elsewhere h q s off last upto
      ∙ sym (others h q (λ e f. at-found (current_path_group_of wan closings h) place q (ap (current_path_group_of wan closings) e ∙ held.0) f off));
  each_group = length-set standings group (Grows place now) ∙ growth.each_group;
  each = λ h hl. elim (cases_eq h group) [
    | inl e ↦ subst (λ k. IsHeld wan closings (amount_at sums'.amounts) k (slice_index_or (set standings group (Grows place now)) k (Stopped 0))) (sym e)
        (subst (IsHeld wan closings (amount_at sums'.amounts) group) (sym (get_or-set_same standings group (Grows place now) (Stopped 0) (omega (arith, lt, growth.each_group))))
        (held.0, omega (arith, is, value-mono wan never group share wan.top within (le_refl wan.top)), λ s last upto. omega (arith, held.2 s last upto, amount)))
    | inr other ↦ subst (IsHeld wan closings (amount_at sums'.amounts) h) (sym (get_or-set_other standings group h (Grows place now) (Stopped 0) other))
        (held-along wan closings (amount_at sums.amounts) (amount_at sums'.amounts) h (slice_index_or standings h (Stopped 0)) (λ q. others h q (λ e f. absurd (other e))) (growth.each h hl))
  ];
}

-- a group that has a path group is one of the groups
pub in_groups : (wan : Wan) (group place : ℕ) → place < path_group_count wan.groups group → group < length wan.groups
in_groups wan group place inside =
    elim (cases_lt group (length wan.groups)) [
      | inl lt ↦ lt
      | inr le ↦ let none : path_group_count wan.groups group ≡ 0 = ap length (get_or-eq_default wan.groups [] le) in absurd (omega (arith, inside, none))
    ]

-- once all groups have come up to a share, what was added is what they have there
pub all-up : (values : Values) (wan : Wan) (closings : List Closing) (standings : List Standing) (sums : Sums) → IsGrowthOf values wan closings standings sums → (share : ℕ) → last_share closings ≤ share → share ≤ wan.top
    → ((group : ℕ) → group < length wan.groups → IsUp wan share group (slice_index_or standings group (Stopped 0))) → amount_at sums.amounts ≡ amounts_at wan closings share
all-up values wan closings standings sums growth share last within up = fun_ext (λ group. fun_ext (λ place. each group place (is_at (current_path_group_of wan closings group) place) refl)) where
  there : (group place found base : ℕ) → IsHeld wan closings (amount_at sums.amounts) group (Grows found base) → base ≡ wan.value group share → current_path_group_of wan closings group ≡ Some place → amount_at sums.amounts group place ≡ amounts_at wan closings share group place
  there group place found base held is e =
      let some : Some found ≡ Some place = sym held.0 ∙ e in
      let same : found ≡ place = cc in
      subst (λ k. amount_at sums.amounts group k ≡ amounts_at wan closings share group k) same (omega (arith, held.2 share last within, is))

  found_there : (group place : ℕ) (standing : Standing) → IsHeld wan closings (amount_at sums.amounts) group standing → IsUp wan share group standing → current_path_group_of wan closings group ≡ Some place → amount_at sums.amounts group place ≡ amounts_at wan closings share group place
  found_there group place (Grows found base) held is e = there group place found base held is e
  found_there group place (Stopped at) held is e = let no : Some place ≡ None = sym e ∙ held.0 in absurd (cc)

  each : (group place : ℕ) (at : Bool) → is_at (current_path_group_of wan closings group) place ≡ at → amount_at sums.amounts group place ≡ amounts_at wan closings share group place
  each group place false e = sym (growth.elsewhere group place share e last within)
  each group place true e =
      let current = is_at-true (current_path_group_of wan closings group) place e in
      let inside = (current-open (slice_index_or wan.groups group []) (closed_links closings) place current).0 in
      let lt : group < length wan.groups = in_groups wan group place inside in
      found_there group place (slice_index_or standings group (Stopped 0)) (growth.each group lt) (up group lt) current

-- with nothing closed, a group that has a path group is on one
none-first : (path_groups : PathGroups) → 1 ≤ length path_groups → current_path_group path_groups [] ≡ None → ⊥
unfolding current_path_group is_open
none-first path_groups some none =
    let shut : true ≡ false = lowest-none (length path_groups) (λ place. is_open [] (slice_index_or path_groups place [])) none 0 (omega arith) in
    cc

-- at first nothing was added, and each group grows on its first path group
pub held-first : (wan : Wan) → NeverFalls wan → (added : ℕ → ℕ → ℕ) → ((group place : ℕ) → added group place ≡ 0) → (group : ℕ) → wan.value group 0 ≡ 0 → 1 ≤ path_group_count wan.groups group
    → IsHeld wan [] added group (standing_of (current_path_group (slice_index_or wan.groups group []) []) 0 0)
unfolding amounts_at
held-first wan never added none group starts some = go (current_path_group (slice_index_or wan.groups group []) []) refl where
  go : (o : Option ℕ) → current_path_group (slice_index_or wan.groups group []) [] ≡ o → IsHeld wan [] added group (standing_of o 0 0)
  go None e = absurd (none-first (slice_index_or wan.groups group []) some e)
  go (Some place) e = (
    e,
    omega arith,
    λ share last within.
        omega (arith, starts, none group place, growth-on wan [] 0 share group place (at-some (current_path_group_of wan [] group) place e)),
  )

pub elsewhere-first : (wan : Wan) (added : ℕ → ℕ → ℕ) → ((group place : ℕ) → added group place ≡ 0) → HasElsewhere wan [] added
unfolding amounts_at
elsewhere-first wan added none group place share off last within = growth-off wan [] 0 share group place off ∙ sym (none group place)

-- a growth of equal parts
pub growth-along : (values values' : Values) (groups groups' : List PathGroups) (capacities capacities' : List ℕ) (closings closings' : List Closing) (standings : List Standing) (sums sums' : Sums)
    → values ≡ values' → groups ≡ groups' → capacities ≡ capacities' → closings ≡ closings' → sums ≡ sums'
    → IsGrowthOf values' (wan_of values' groups' capacities') closings' standings sums' → IsGrowthOf values (wan_of values groups capacities) closings standings sums
growth-along values values' groups groups' capacities capacities' closings closings' standings sums sums' e f h k i is =
    subst (λ v. IsGrowthOf v (wan_of v groups capacities) closings standings sums) (sym e)
    (subst (λ gs. IsGrowthOf values' (wan_of values' gs capacities) closings standings sums) (sym f)
    (subst (λ cs. IsGrowthOf values' (wan_of values' groups' cs) closings standings sums) (sym h)
    (subst (λ cs. IsGrowthOf values' (wan_of values' groups' capacities') cs standings sums) (sym k)
    (subst (λ s. IsGrowthOf values' (wan_of values' groups' capacities') closings' standings s) (sym i) is))))

-- the same network is filled
pub wan-kept : {V : Type 0} (meaning : V → Values) (old new : Growth V) → KeepsNetwork old new → wan_in meaning new ≡ wan_in meaning old
wan-kept meaning old new kept =
    ap (λ v. wan_of (meaning v) new.plan.now new.topology.now.capacities) kept.values
    ∙ ap (λ groups. wan_of (meaning old.values.now) groups new.topology.now.capacities) kept.plan
    ∙ ap (λ topology. wan_of (meaning old.values.now) old.plan.now topology.capacities) kept.topology

-- where all groups have come up, each that grows over a link has
pub up-over : (wan : Wan) (closings : List Closing) (added : ℕ → ℕ → ℕ) (share link group : ℕ) (standing : Standing) → added ≡ amounts_at wan closings share → last_share closings ≤ share → share ≤ wan.top
    → IsHeld wan closings added group standing → IsUpOver wan link share group standing
up-over wan closings added share link group (Grows place base) is last within held = λ used. omega (arith, held.2 share last within, ap (λ x. x group place) is)
up-over wan closings added share link group (Stopped at) is last within held = tt

-- the path group on which a group grows is one of its own
pub held-placed : (wan : Wan) (closings : List Closing) (added : ℕ → ℕ → ℕ) (group : ℕ) (standing : Standing) → IsHeld wan closings added group standing → IsPlaced wan.groups group standing
held-placed wan closings added group (Grows place base) held = (current-open (slice_index_or wan.groups group []) (closed_links closings) place held.0).0
held-placed wan closings added group (Stopped at) held = tt

-- where a group stops that is held so
pub held-stop : (wan : Wan) (closings : List Closing) (added : ℕ → ℕ → ℕ) (group : ℕ) (standing : Standing) → IsHeld wan closings added group standing → stop_of wan.top standing ≡ stop_share (slice_index_or wan.groups group []) closings wan.top
held-stop wan closings added group (Grows place base) held = sym (stop-moving wan closings group place wan.top held.0)
held-stop wan closings added group (Stopped at) held = sym (held.1 wan.top)
