-- Groups are listed at the links that they use.
use Rattle.std.proofs.Common.{◌≡◌, ℕ, zero, suc, ◌+◌, ◌-◌, ◌<◌, ◌≤◌, ◌≢◌, Bool, true, false, ◌||◌, ◌==◌, nat_eq, List, [], ◌∷◌, ◌++◌, length, map, take, set, refl, sym, ◌∙◌, ap, arith, subst, inl, inr, get_or, slice_index, slice_index_or, eq-eqb, ne_eqb, length-append}
use Rattle.std.specs.Prelude.{Contains}
use Rattle.std.specs.List.{IsDistinct}
use Rattle.std.proofs.lemmas.Bool.{cases_eq, cases_lt}
use Rattle.std.proofs.lemmas.List.{length-map, length-set, map-set, get_or-set_same, get_or-set_other, get_or_default}
use Rattle.std.proofs.lemmas.List.Elements.{Contains-get_or}
use Rattle.std.proofs.lemmas.List.Folds.{list_any_more}
use Rattle.std.proofs.lemmas.Map.Keys.{IsDistinct-tail, apart_from_distinct}
use Rattle.std.proofs.Math.ListN.{get_or-eq_default, get_or-append}
use Rattle.std.proofs.Math.Seq.{get_or-append_seam}
use Rattle.bwe_specs.specs.Paths.{PathGroups, path_group_at, path_group_count, uses}
use Rattle.wan_topology.specs.Network.{Network}
use Rattle.path_groups.specs.declared.part.LinkPart.{LinkPart}
use Rattle.path_groups.specs.declared.part.LinkUse.{LinkUse}
use Rattle.path_groups.specs.Parts.{IsPartOn, AreParts, has_part}
use Rattle.path_groups.specs.Plan.{IsBuiltOn}
use Rattle.path_groups.proofs.Lists.{get_map}
use Rattle.path_groups.proofs.Parts.{AreParts-used}
use Rattle.path_groups.proofs.Uses.{uses-in}
use Rattle.link_front.specs.declared.by_link.LinkGroups.{LinkGroups}
use Rattle.link_front.specs.ByLink.{Listed, nothing, listed_of, listed_on, IsListed, IsBefore, IsUseTo, IsListedTo, AreListedTo}

pub built-links : (network : Network) (groups : List PathGroups) (count : ℕ) → count ≡ length network.capacities → IsBuiltOn network groups → (group place link : ℕ) → uses (path_group_at groups group place) link ≡ true → link < count
built-links network groups count is built group place link used = omega (arith, is, uses-in network (path_group_at groups group place) link (built.paths group place) used)

-- a path group that uses a link is one of those of a group
pub used-place : (groups : List PathGroups) (group place link : ℕ) → uses (path_group_at groups group place) link ≡ true → place < path_group_count groups group
unfolding uses
used-place groups group place link used = elim (cases_lt place (path_group_count groups group)) [
  | inl lt ↦ lt
  | inr past ↦
      let none : path_group_at groups group place ≡ [] = get_or-eq_default (slice_index_or groups group []) [] past in
      let unused : uses (path_group_at groups group place) link ≡ false = ap (λ path_group. uses path_group link) none in
      absurd (cc)
]

pub used-group : (groups : List PathGroups) (group place link : ℕ) → uses (path_group_at groups group place) link ≡ true → group < length groups
used-group groups group place link used = elim (cases_lt group (length groups)) [
  | inl lt ↦ lt
  | inr past ↦
      let none : path_group_count groups group ≡ 0 = ap length (get_or-eq_default groups [] past) in
      absurd (omega (arith, none, used-place groups group place link used))
]

-- what is listed of a link, as the code reads it
pub listed_on-read : (lists : List LinkGroups) (link : ℕ) (d : LinkGroups) → link < length lists → listed_on lists link ≡ listed_of (slice_index_or lists link d)
listed_on-read lists link d lt = get_map listed_of lists link d nothing lt

pub listed_on-past : (lists : List LinkGroups) (link : ℕ) → length lists ≤ link → listed_on lists link ≡ nothing
listed_on-past lists link past = get_or-eq_default (map listed_of lists) nothing (omega (arith, past, length-map lists listed_of))

-- the lists, where one was changed
module _ (lists : List LinkGroups) (at : ℕ) (new : LinkGroups) where
  pub listed_on-same : at < length lists → listed_on (set lists at new) at ≡ listed_of new
  listed_on-same lt =
      ap (λ (rows : List Listed). slice_index_or rows at nothing) (map-set listed_of lists at new)
      ∙ get_or-set_same (map listed_of lists) at (listed_of new) nothing (omega (arith, lt, length-map lists listed_of))

  pub listed_on-other : (link : ℕ) → link ≢ at → listed_on (set lists at new) link ≡ listed_on lists link
  listed_on-other link other =
      ap (λ (rows : List Listed). slice_index_or rows link nothing) (map-set listed_of lists at new)
      ∙ get_or-set_other (map listed_of lists) at link (listed_of new) nothing other

-- ---- the groups of one link

-- a group, and one of another group
before-other : (group place next other at : ℕ) → other ≢ group → IsBefore group place other at → IsBefore group next other at
before-other group place next other at apart before = record { low = before.low; here = λ e. absurd (apart e) }

before-more : (group place other at : ℕ) → IsBefore group place other at → IsBefore group (place + 1) other at
before-more group place other at before = record { low = before.low; here = λ e. omega (arith, before.here e) }

no_use : LinkUse
no_use = record { place = 0; part = record { link = 0; weight = 0; whole = 0 }; is_only = false }

module _ (groups : List PathGroups) (link : ℕ) where
  pub listed-start : IsListedTo groups link 0 0 nothing
  listed-start = record {
    each_group = refl;
    rise = λ i j lt inside. absurd (omega arith);
    each = λ other at before used. absurd (let first : other ≡ 0 = omega (arith, before.low) in omega (arith, before.here first));
    each_use = λ i d lt. absurd (omega arith);
  }

  -- before the one and before the other are the same path groups that use the link
  listed-along : (group place next there : ℕ) (listed : Listed) → ((other at : ℕ) → IsBefore group place other at → IsBefore next there other at)
      → ((other at : ℕ) → uses (path_group_at groups other at) link ≡ true → IsBefore next there other at → IsBefore group place other at)
      → IsListedTo groups link group place listed → IsListedTo groups link next there listed
  listed-along group place next there listed forth back are = record {
    each_group = are.each_group;
    rise = are.rise;
    each = λ other at before used. are.each other at (back other at used before) used;
    each_use = λ i d lt.
        let is = are.each_use i d lt in
        record {
          before = forth (slice_index listed.groups i) (slice_index_or listed.uses i d).place is.before;
          part = is.part;
          only = λ one at before used. is.only one at (back (slice_index listed.groups i) at used before) used;
        };
  }

  -- after the last path group of a group comes the next group
  pub listed-next : (group count : ℕ) (listed : Listed) → count ≡ path_group_count groups group → IsListedTo groups link group count listed → IsListedTo groups link (group + 1) 0 listed
  listed-next group count listed all =
      listed-along group count (group + 1) 0 listed
      (λ other at before. record { low = omega (arith, before.low); here = λ e. absurd (omega (arith, e, before.low)) })
      (λ other at used before. record {
        low = elim (cases_eq other (group + 1)) [
          | inl e ↦ absurd (omega (arith, before.here e))
          | inr apart ↦ omega (arith, before.low, apart)
        ];
        here = λ e. omega (arith, all, ap (path_group_count groups) e, used-place groups other at link used);
      })

  -- a path group that does not use the link
  pub listed-skip : (group place : ℕ) (listed : Listed) → uses (path_group_at groups group place) link ≡ false → IsListedTo groups link group place listed → IsListedTo groups link group (place + 1) listed
  listed-skip group place listed unused =
      listed-along group place group (place + 1) listed (before-more group place)
      (λ other at used before. record {
        low = before.low;
        here = λ e. elim (cases_eq at place) [
          | inl same ↦
              let here : uses (path_group_at groups group place) link ≡ true = subst (λ k. uses (path_group_at groups group k) link ≡ true) same (subst (λ g. uses (path_group_at groups g at) link ≡ true) e used) in
              absurd (cc)
          | inr apart ↦ omega (arith, before.here e, apart)
        ];
      })

  module _ (group place : ℕ) (listed : Listed) (are : IsListedTo groups link group place listed) where
    -- a use of another group
    use-other : (other : ℕ) (link_use : LinkUse) → other ≢ group → IsUseTo groups link group place other link_use → IsUseTo groups link group (place + 1) other link_use
    use-other other link_use apart is = record {
      before = before-more group place other link_use.place is.before;
      part = is.part;
      only = λ one at before used. is.only one at (before-other group (place + 1) place other at apart before) used;
    }

    -- the group is the last that is listed
    pub listed-again : (end : ℕ) (last : LinkUse) → end + 1 ≡ length listed.groups → slice_index listed.groups end ≡ group → last ≡ get_or listed.uses end last
        → IsListedTo groups link group (place + 1) (record { groups = listed.groups; uses = set listed.uses end (record { place = last.place; part = last.part; is_only = false }) })
    listed-again end last is_end is_group is = record {
      each_group = length-set listed.uses end new ∙ are.each_group;
      rise = are.rise;
      each = λ other at before used. elim (cases_eq other group) [
        | inl e ↦ subst (Contains listed.groups) (is_group ∙ sym e) (Contains-get_or listed.groups end 0 (omega (arith, is_end)))
        | inr apart ↦ are.each other at (before-other group (place + 1) place other at apart before) used
      ];
      each_use = each;
    } where
      new : LinkUse
      new = record { place = last.place; part = last.part; is_only = false }

      each : (i : ℕ) (d : LinkUse) → i < length listed.groups → IsUseTo groups link group (place + 1) (slice_index listed.groups i) (slice_index_or (set listed.uses end new) i d)
      each i d lt = elim (cases_eq i end) [
        | inl e ↦
            let here : slice_index_or (set listed.uses end new) i d ≡ new =
            ap (λ k. slice_index_or (set listed.uses end new) k d) e ∙ get_or-set_same listed.uses end new d (omega (arith, is_end, are.each_group)) in
            let was : slice_index_or listed.uses i last ≡ last = ap (λ k. slice_index_or listed.uses k last) e ∙ sym is in
            let old : IsUseTo groups link group place (slice_index listed.groups i) last = subst (IsUseTo groups link group place (slice_index listed.groups i)) was (are.each_use i last lt) in
            subst (IsUseTo groups link group (place + 1) (slice_index listed.groups i)) (sym here)
            (record { before = before-more group place (slice_index listed.groups i) last.place old.before; part = old.part; only = λ one. absurd (cc) })
        | inr apart ↦
            let here : slice_index_or (set listed.uses end new) i d ≡ slice_index_or listed.uses i d = get_or-set_other listed.uses end i new d apart in
            let lower : slice_index listed.groups i < slice_index listed.groups end = are.rise i end (omega (arith, lt, apart, is_end)) (omega (arith, is_end)) in
            subst (IsUseTo groups link group (place + 1) (slice_index listed.groups i)) (sym here)
            (use-other (slice_index listed.groups i) (slice_index_or listed.uses i d) (λ e. absurd (omega (arith, e, lower, is_group))) (are.each_use i d lt))
      ]

    -- it is not: it is listed with its first path group that uses the link
    pub listed-first : (part : LinkPart) → ((i : ℕ) → i + 1 ≡ length listed.groups → slice_index listed.groups i ≢ group) → IsPartOn (path_group_at groups group place) link part
        → IsListedTo groups link group (place + 1) (record { groups = listed.groups ++ group ∷ []; uses = listed.uses ++ record { place = place; part = part; is_only = true } ∷ [] })
    listed-first part last of = record {
      each_group = omega (arith, are.each_group, length-append listed.uses (new ∷ []), length-append listed.groups (group ∷ []));
      rise = rise;
      each = λ other at before used. elim (cases_eq other group) [
        | inl e ↦ subst (Contains (listed.groups ++ group ∷ [])) (at_end ∙ sym e) (Contains-get_or (listed.groups ++ group ∷ []) (length listed.groups) 0 (omega (arith, longer)))
        | inr apart ↦ let has = are.each other at (before-other group (place + 1) place other at apart before) used in kept other has.0 has.1 has.2
      ];
      each_use = each;
    } where
      new : LinkUse
      new = record { place = place; part = part; is_only = true }

      longer : length (listed.groups ++ group ∷ []) ≡ length listed.groups + 1
      longer = length-append listed.groups (group ∷ [])

      at_end : slice_index (listed.groups ++ group ∷ []) (length listed.groups) ≡ group
      at_end = get_or-append_seam listed.groups group [] 0

      before_end : (i : ℕ) → i < length listed.groups → slice_index (listed.groups ++ group ∷ []) i ≡ slice_index listed.groups i
      before_end i lt = get_or-append listed.groups (group ∷ []) 0 i lt

      lower : (i : ℕ) → i < length listed.groups → slice_index listed.groups i < group
      lower i lt = elim (cases_eq (i + 1) (length listed.groups)) [
        | inl end ↦ omega (arith, (are.each_use i no_use lt).before.low, last i end)
        | inr inner ↦
            let end : length listed.groups - 1 < length listed.groups = omega (arith, lt) in
            omega (arith, are.rise i (length listed.groups - 1) (omega (arith, lt, inner)) end, (are.each_use (length listed.groups - 1) no_use end).before.low)
      ]

      kept : (other k : ℕ) → k < length listed.groups → slice_index_or listed.groups k other ≡ other → Contains (listed.groups ++ group ∷ []) other
      kept other k lt e = (k, omega (arith, lt, longer), get_or-append listed.groups (group ∷ []) other k lt ∙ e)

      rise : (i j : ℕ) → i < j → j < length (listed.groups ++ group ∷ []) → slice_index (listed.groups ++ group ∷ []) i < slice_index (listed.groups ++ group ∷ []) j
      rise i j lt inside = elim (cases_eq j (length listed.groups)) [
        | inl e ↦
            let early : i < length listed.groups = omega (arith, lt, e) in
            omega (arith, before_end i early, lower i early, ap (slice_index (listed.groups ++ group ∷ [])) e, at_end)
        | inr apart ↦
            let early : j < length listed.groups = omega (arith, inside, longer, apart) in
            omega (arith, before_end i (omega (arith, lt, early)), before_end j early, are.rise i j lt early)
      ]

      -- no path group of the group that comes before uses the link
      only : (at : ℕ) → IsBefore group (place + 1) group at → uses (path_group_at groups group at) link ≡ true → at ≡ place
      only at before used = elim (cases_eq at place) [
        | inl e ↦ e
        | inr apart ↦
            let has = are.each group at (record { low = omega arith; here = λ e. omega (arith, before.here refl, apart) }) used in
            absurd (omega (arith, lower has.0 has.1, get_or_default listed.groups has.0 0 group has.1, has.2))
      ]

      each : (i : ℕ) (d : LinkUse) → i < length (listed.groups ++ group ∷ []) → IsUseTo groups link group (place + 1) (slice_index (listed.groups ++ group ∷ []) i) (slice_index_or (listed.uses ++ new ∷ []) i d)
      each i d lt = elim (cases_eq i (length listed.groups)) [
        | inl e ↦
            let is_group : slice_index (listed.groups ++ group ∷ []) i ≡ group = ap (slice_index (listed.groups ++ group ∷ [])) e ∙ at_end in
            let is_new : slice_index_or (listed.uses ++ new ∷ []) i d ≡ new =
            ap (λ k. slice_index_or (listed.uses ++ new ∷ []) k d) (e ∙ sym are.each_group) ∙ get_or-append_seam listed.uses new [] d in
            subst (λ g. IsUseTo groups link group (place + 1) g (slice_index_or (listed.uses ++ new ∷ []) i d)) (sym is_group)
            (subst (IsUseTo groups link group (place + 1) group) (sym is_new)
            (record { before = record { low = omega arith; here = λ e. omega arith }; part = of; only = λ one. only }))
        | inr apart ↦
            let early : i < length listed.groups = omega (arith, lt, longer, apart) in
            let is_use : slice_index_or (listed.uses ++ new ∷ []) i d ≡ slice_index_or listed.uses i d = get_or-append listed.uses (new ∷ []) d i (omega (arith, early, are.each_group)) in
            subst (λ g. IsUseTo groups link group (place + 1) g (slice_index_or (listed.uses ++ new ∷ []) i d)) (sym (before_end i early))
            (subst (IsUseTo groups link group (place + 1) (slice_index listed.groups i)) (sym is_use)
            (use-other (slice_index listed.groups i) (slice_index_or listed.uses i d) (λ e. absurd (omega (arith, e, lower i early))) (are.each_use i d early)))
      ]

  -- after the last group
  pub listed-all : (listed : Listed) → IsListedTo groups link (length groups) 0 listed → IsListed groups link listed
  listed-all listed are = record {
    groups_on = record {
      ascending = record {
        below = λ i lt.
            let is = are.each_use i no_use lt in
            elim (cases_eq (slice_index listed.groups i) (length groups)) [
              | inl e ↦ absurd (omega (arith, is.before.here e))
              | inr apart ↦ omega (arith, is.before.low, apart)
            ];
        rise = are.rise;
      };
      each = λ other at used. are.each other at (before other at used) used;
    };
    uses_on = record {
      each_group = are.each_group;
      each = λ i d lt.
          let is = are.each_use i d lt in
          let other : ℕ = slice_index listed.groups i in
          let link_use : LinkUse = slice_index_or listed.uses i d in
          record {
            place_is = used-place groups other link_use.place link (subst (λ l. uses (path_group_at groups other link_use.place) l ≡ true) is.part.on is.part.of.used);
            part = is.part;
            only = λ one at used. is.only one at (before other at used) used;
          };
    };
  } where
    before : (other at : ℕ) → uses (path_group_at groups other at) link ≡ true → IsBefore (length groups) 0 other at
    before other at used =
        let lt : other < length groups = used-group groups other at link used in
        record { low = omega (arith, lt); here = λ e. absurd (omega (arith, e, lt)) }

-- ---- the links of a path group, part by part

-- the link of a part has no part before it
part-new : (parts : List LinkPart) (i : ℕ) (d : LinkPart) → IsDistinct nat_eq (map (λ part. part.link) parts) → i < length parts → has_part (take i parts) (get_or parts i d).link ≡ false
part-new [] i d distinct lt = absurd (omega arith)
part-new (part ∷ later) zero d distinct lt = refl
part-new (part ∷ later) (suc i) d distinct lt =
    let links : List ℕ = map (λ (other : LinkPart). other.link) (part ∷ later) in
    let there : get_or links (suc i) 0 ≡ (get_or later i d).link = get_map (λ (other : LinkPart). other.link) later i d 0 (omega arith) in
    let apart : nat_eq part.link (get_or later i d).link ≡ false =
    subst (λ link. nat_eq part.link link ≡ false) there (apart_from_distinct nat_eq links zero (suc i) 0 distinct (omega arith) (omega (arith, lt, length-map (part ∷ later) (λ (other : LinkPart). other.link)))) in
    rw apart (part-new later i d (IsDistinct-tail nat_eq part.link (map (λ (other : LinkPart). other.link) later) distinct) (omega arith))

-- the links of the parts so far have the path group, the others those before it
pub record ArePlaced (groups : List PathGroups) (group place : ℕ) (parts : List LinkPart) (lists : List LinkGroups) : Type 0 where
  pub done : (link : ℕ) → has_part parts link ≡ true → IsListedTo groups link group (place + 1) (listed_on lists link)
  pub left : (link : ℕ) → has_part parts link ≡ false → IsListedTo groups link group place (listed_on lists link)

module _ (groups : List PathGroups) (group place : ℕ) (parts : List LinkPart) (are : AreParts (path_group_at groups group place) parts) where
  pub placed-start : (lists : List LinkGroups) → AreListedTo groups group place lists → ArePlaced groups group place [] lists
  placed-start lists before = record { done = λ link never. absurd (cc); left = λ link none. before link }

  -- the link of a part is listed as by the path groups before
  pub placed-here : (lists : List LinkGroups) (i : ℕ) (d : LinkPart) → i < length parts → ArePlaced groups group place (take i parts) lists
      → IsListedTo groups (get_or parts i d).link group place (listed_on lists (get_or parts i d).link)
  placed-here lists i d lt placed = placed.left (get_or parts i d).link (part-new parts i d are.some.once lt)

  pub placed-next : (lists : List LinkGroups) (i : ℕ) (d : LinkPart) (new : LinkGroups) → i < length parts → (get_or parts i d).link < length lists → ArePlaced groups group place (take i parts) lists
      → IsListedTo groups (get_or parts i d).link group (place + 1) (listed_of new)
      → ArePlaced groups group place (take (i + 1) parts) (set lists (get_or parts i d).link new)
  placed-next lists i d new lt inside placed now = record {
    done = λ link has. elim (cases_eq link at) [
      | inl e ↦ subst (λ l. IsListedTo groups l group (place + 1) (listed_on (set lists at new) l)) (sym e)
          (subst (IsListedTo groups at group (place + 1)) (sym (listed_on-same lists at new inside)) now)
      | inr apart ↦ subst (IsListedTo groups link group (place + 1)) (sym (listed_on-other lists at new link apart)) (placed.done link (sym (as_before link apart) ∙ has))
    ];
    left = λ link none. elim (cases_eq link at) [
      | inl e ↦ absurd (let has = here link e in cc)
      | inr apart ↦ subst (IsListedTo groups link group place) (sym (listed_on-other lists at new link apart)) (placed.left link (sym (as_before link apart) ∙ none))
    ];
  } where
    at : ℕ
    at = (get_or parts i d).link

    more : (link : ℕ) → has_part (take (i + 1) parts) link ≡ (has_part (take i parts) link || (at == link))
    more link = list_any_more (λ part. part.link == link) parts i d lt

    as_before : (link : ℕ) → link ≢ at → has_part (take (i + 1) parts) link ≡ has_part (take i parts) link
    as_before link apart = more link ∙ ap (λ b. has_part (take i parts) link || b) (ne_eqb at link (λ e. absurd (apart (sym e)))) ∙ or-false (has_part (take i parts) link) where
      or-false : (b : Bool) → (b || false) ≡ b
      or-false true = refl
      or-false false = refl

    here : (link : ℕ) → link ≡ at → has_part (take (i + 1) parts) link ≡ true
    here link e = more link ∙ ap (λ b. has_part (take i parts) link || b) (eq-eqb at link (sym e)) ∙ or-all (has_part (take i parts) link) where
      or-all : (b : Bool) → (b || true) ≡ true
      or-all true = refl
      or-all false = refl

  -- the other links are not used
  pub placed-end : (lists : List LinkGroups) → ArePlaced groups group place parts lists → AreListedTo groups group (place + 1) lists
  placed-end lists placed link = go (has_part parts link) refl where
    go : (has : Bool) → has_part parts link ≡ has → IsListedTo groups link group (place + 1) (listed_on lists link)
    go true e = placed.done link e
    go false e = listed-skip groups link group place (listed_on lists link) (sym (AreParts-used (path_group_at groups group place) parts link are) ∙ e) (placed.left link e)
