-- Loads, moved link by link.
use Rattle.std.proofs.Common.{◌≡◌, ◌≢◌, ℕ, zero, suc, ◌+◌, ◌-◌, ◌<◌, ◌≤◌, Bool, true, false, ◌||◌, ◌==◌, List, [], ◌∷◌, length, map, refl, sym, ◌∙◌, ap, subst, arith, get_or, set, take, inl, inr, nat_eq, eqb-true}
use Rattle.std.specs.List.{IsDistinct}
use Rattle.std.proofs.lemmas.List.Elements.{All-from_recursion}
use Rattle.path_groups.proofs.Lists.{get_map}
use Rattle.std.specs.Cmp.{nat_eq_equiv}
use Rattle.std.proofs.lemmas.Bool.{cases_eq}
use Rattle.std.proofs.lemmas.List.{take_more, get_or-set_same, get_or-set_other, length-set, length-map}
use Rattle.std.proofs.lemmas.List.Folds.{list_any-append}
use Rattle.bwe_specs.specs.Paths.{PathGroup, uses, load_on}
use Rattle.bwe_specs.proofs.Loads.{load_on-unused, or-true, or-false}
use Rattle.path_groups.specs.declared.part.LinkPart.{LinkPart}
use Rattle.path_groups.specs.Parts.{has_part, AreParts}
use Rattle.path_groups.proofs.Parts.{AreParts-used}

-- no part before is for the same link
pub fresh : (parts : List LinkPart) (i : ℕ) (d : LinkPart) → i < length parts → IsDistinct nat_eq (map (λ part. part.link) parts) → has_part (take i parts) (get_or parts i d).link ≡ false
unfolding IsDistinct
fresh [] i d lt once = absurd (omega arith)
fresh (part ∷ later) zero d lt once = refl
fresh (part ∷ later) (suc i) d lt once =
    let all = All-from_recursion (λ link. nat_eq part.link link ≡ false) (map (λ other. other.link) later) once.0 in
    let within : i < length (map (λ other. other.link) later) = omega (arith, lt, length-map later (λ other. other.link)) in
    let apart : (part.link == (get_or later i d).link) ≡ false = subst (λ link. nat_eq part.link link ≡ false) (get_map (λ other. other.link) later i d 0 (omega arith)) (all i 0 within) in
    rw (apart, fresh later i d (omega arith) once.1)

-- the loads of the links of these parts have moved from those of one amount to those of another, and no others
pub record IsMoved (path_group : PathGroup) (parts : List LinkPart) (before after : ℕ) (old loads : List ℕ) : Type 0 where
  pub count : length loads ≡ length old
  pub moved : (link : ℕ) → has_part parts link ≡ true → link < length old → get_or loads link 0 + load_on path_group link before ≡ get_or old link 0 + load_on path_group link after
  pub others : (link : ℕ) → has_part parts link ≡ false → get_or loads link 0 ≡ get_or old link 0

pub IsMoved-start : (path_group : PathGroup) (before after : ℕ) (old : List ℕ) → IsMoved path_group [] before after old old
IsMoved-start path_group before after old = record { count = refl; moved = λ link never lt. absurd (cc); others = λ link none. refl }

module _ (path_group : PathGroup) (parts : List LinkPart) (are : AreParts path_group parts) (before after : ℕ) (old loads : List ℕ) (i : ℕ) (d : LinkPart) (lt : i < length parts)
    (is : IsMoved path_group (take i parts) before after old loads) where
  here : ℕ
  here = (get_or parts i d).link

  -- the load that is read is still the old one
  pub IsMoved-read : get_or loads (get_or parts i d).link 0 ≡ get_or old (get_or parts i d).link 0
  IsMoved-read = is.others (get_or parts i d).link (fresh parts i d lt are.some.once)

  has-more : (link : ℕ) → has_part (take (i + 1) parts) link ≡ (has_part (take i parts) link || ((get_or parts i d).link == link || false))
  has-more link = ap (λ more. has_part more link) (take_more parts i d lt) ∙ list_any-append (λ part. part.link == link) (take i parts) (get_or parts i d ∷ [])

  -- one link more
  pub IsMoved-more : (less more : ℕ) → less ≡ load_on path_group (get_or parts i d).link before → more ≡ load_on path_group (get_or parts i d).link after
      → (get_or parts i d).link < length old → less ≤ get_or old (get_or parts i d).link 0
      → IsMoved path_group (take (i + 1) parts) before after old (set loads (get_or parts i d).link (get_or loads (get_or parts i d).link 0 - less + more))
  IsMoved-more less more less_is more_is within counted = record {
    count = length-set loads link (get_or loads link 0 - less + more) ∙ is.count;
    moved = λ other has below. elim (cases_eq other link) [
      | inl e ↦
          let value : get_or (set loads link (get_or loads link 0 - less + more)) link 0 ≡ get_or loads link 0 - less + more = get_or-set_same loads link (get_or loads link 0 - less + more) 0 (omega (arith, within, is.count)) in
          subst (λ l. get_or (set loads link (get_or loads link 0 - less + more)) l 0 + load_on path_group l before ≡ get_or old l 0 + load_on path_group l after) (sym e)
          (omega (arith, value, IsMoved-read, less_is, more_is, counted))
      | inr apart ↦ get_or-set_same_other other apart (is.moved other (had other apart has) below)
    ];
    others = λ other none.
        let split = or-false (has_part (take i parts) other) (link == other || false) (sym (has-more other) ∙ none) in
        get_or-set_other loads link other (get_or loads link 0 - less + more) 0 (λ e. let same = (nat_eq_equiv).refl other in let off = (or-false (link == other) false split.1).0 in absurd (let on : (link == other) ≡ true = ap (λ l. l == other) (sym e) ∙ same in cc))
        ∙ is.others other split.0;
  } where
    link : ℕ
    link = (get_or parts i d).link

    get_or-set_same_other : (other : ℕ) → other ≢ (get_or parts i d).link → get_or loads other 0 + load_on path_group other before ≡ get_or old other 0 + load_on path_group other after
        → get_or (set loads (get_or parts i d).link (get_or loads (get_or parts i d).link 0 - less + more)) other 0 + load_on path_group other before ≡ get_or old other 0 + load_on path_group other after
    get_or-set_same_other other apart e = rw (get_or-set_other loads (get_or parts i d).link other (get_or loads (get_or parts i d).link 0 - less + more) 0 apart) e

    had : (other : ℕ) → other ≢ (get_or parts i d).link → has_part (take (i + 1) parts) other ≡ true → has_part (take i parts) other ≡ true
    had other apart has = elim (or-true (has_part (take i parts) other) ((get_or parts i d).link == other || false) (sym (has-more other) ∙ has)) [
      | inl e ↦ e
      | inr e ↦ elim (or-true ((get_or parts i d).link == other) false e) [
        | inl f ↦ absurd (apart (sym (eqb-true (get_or parts i d).link other f)))
        | inr never ↦ absurd (cc)
      ]
    ]

-- after all parts every load has moved
pub IsMoved-end : (path_group : PathGroup) (parts : List LinkPart) (are : AreParts path_group parts) (before after : ℕ) (old loads : List ℕ) → IsMoved path_group parts before after old loads
    → (link : ℕ) → link < length old → get_or loads link 0 + load_on path_group link before ≡ get_or old link 0 + load_on path_group link after
IsMoved-end path_group parts are before after old loads is link lt = go (has_part parts link) refl where
  go : (has : Bool) → has_part parts link ≡ has → get_or loads link 0 + load_on path_group link before ≡ get_or old link 0 + load_on path_group link after
  go true e = is.moved link e lt
  go false e =
      let unused : uses path_group link ≡ false = sym (AreParts-used path_group parts link are) ∙ e in
      omega (arith, is.others link e, load_on-unused path_group link before unused, load_on-unused path_group link after unused)
