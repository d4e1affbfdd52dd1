-- The first closing of each link, as it is found, and of a path group.
use Rattle.std.proofs.Common.{◌≡◌, ℕ, zero, suc, ◌+◌, ◌<◌, ◌≤◌, ◌⊎◌, Bool, true, false, ◌||◌, ◌==◌, List, [], ◌∷◌, length, take, reverse, set, min, Some, None, refl, sym, ◌∙◌, ap, arith, subst, inl, inr, slice_index, get_or, eq-eqb, eqb-true, add-one}
use Rattle.std.proofs.Math.Bool.{or-false, or-true}
use Rattle.std.proofs.lemmas.Bool.{cases_eq, cases_lt}
use Rattle.std.proofs.lemmas.List.{take_more, get_or-set_same, get_or-set_other, length-set, get_or_default, take_all}
use Rattle.std.proofs.lemmas.List.Folds.{list_any-append}
use Rattle.bwe_specs.specs.declared.network.Closing.{Closing}
use Rattle.bwe_specs.specs.Paths.{PathGroup, uses}
use Rattle.bwe_specs.specs.Filling.{closed_by}
use Rattle.path_groups.specs.declared.part.LinkPart.{LinkPart}
use Rattle.path_groups.specs.Parts.{AreParts, has_part}
use Rattle.path_groups.proofs.Parts.{AreParts-used}
use Rattle.plain_table.specs.FirstOfLinks.{closing_at, IsFirst, AreFirsts}
use Rattle.plain_table.proofs.First.{first-used, first-unused, first-none}

-- of the closings so far none is of the link, or its first is known
abbrev pub IsFirstSoFar : List Closing → ℕ → ℕ → ℕ → Type 0
IsFirstSoFar closings count link at =
    ((at ≡ length closings) × ((k : ℕ) → k < count → (closing_at closings k).link ≡ link → ⊥)) ⊎ IsFirst closings link at

pub record AreFirstsSoFar (closings : List Closing) (count : ℕ) (firsts : List ℕ) : Type 0 where
  pub each : (link : ℕ) → link < length firsts → IsFirstSoFar closings count link (slice_index firsts link)
  pub all : (k : ℕ) → k < length closings → (closing_at closings k).link < length firsts

pub firsts-start : (closings : List Closing) (firsts : List ℕ) → ((link : ℕ) → link < length firsts → slice_index firsts link ≡ length closings) → ((k : ℕ) → k < length closings → (closing_at closings k).link < length firsts)
    → AreFirstsSoFar closings 0 firsts
firsts-start closings firsts behind all = record {
  each = λ link lt. inl (behind link lt, λ k none. absurd (omega (arith, none)));
  all = all;
}

-- one more closing, of a link that had none ..
pub firsts-found : (closings : List Closing) (count : ℕ) (firsts : List ℕ) → AreFirstsSoFar closings count firsts → count < length closings
    → slice_index firsts (closing_at closings count).link ≡ length closings → AreFirstsSoFar closings (count + 1) (set firsts (closing_at closings count).link count)
firsts-found closings count firsts so lt none =
    let l = (closing_at closings count).link in
    let inside : l < length firsts = so.all count lt in
    record {
      each = λ link within. elim (cases_eq link l) [
        | inl e ↦ subst (λ k. IsFirstSoFar closings (count + 1) k (slice_index (set firsts l count) k)) (sym e)
            (subst (IsFirstSoFar closings (count + 1) l) (sym (get_or-set_same firsts l count 0 inside)) (inr (here (so.each l inside))))
        | inr other ↦ subst (IsFirstSoFar closings (count + 1) link) (sym (get_or-set_other firsts l link count 0 other))
            (apart link other (so.each link (omega (arith, within, length-set firsts l count))))
      ];
      all = λ k kl. omega (arith, so.all k kl, length-set firsts l count);
    } where
      here : IsFirstSoFar closings count (closing_at closings count).link (slice_index firsts (closing_at closings count).link) → IsFirst closings (closing_at closings count).link count
      here (inl before) = record { upto = omega (arith, lt); others = before.1; here = λ _. refl }
      here (inr first) = absurd (first.others count (omega (arith, lt, none)) refl)

      apart : (link : ℕ) → (link ≡ (closing_at closings count).link → ⊥) → IsFirstSoFar closings count link (slice_index firsts link) → IsFirstSoFar closings (count + 1) link (slice_index firsts link)
      apart link other (inr first) = inr first
      apart link other (inl before) = inl (
        before.0,
        λ k below is. elim (cases_eq k count) [
          | inl e ↦ other (sym (subst (λ j. (closing_at closings j).link ≡ link) e is))
          | inr less ↦ before.1 k (omega (arith, below, less)) is
        ],
      )

-- .. or of one that had
pub firsts-kept : (closings : List Closing) (count : ℕ) (firsts : List ℕ) → AreFirstsSoFar closings count firsts → count < length closings
    → (slice_index firsts (closing_at closings count).link ≡ length closings → ⊥) → AreFirstsSoFar closings (count + 1) firsts
firsts-kept closings count firsts so lt some = record {
  each = λ link within. go link (so.each link within);
  all = so.all;
} where
  go : (link : ℕ) → IsFirstSoFar closings count link (slice_index firsts link) → IsFirstSoFar closings (count + 1) link (slice_index firsts link)
  go link (inr first) = inr first
  go link (inl before) = inl (
    before.0,
    λ k below is. elim (cases_eq k count) [
      | inl e ↦ some (subst (λ j. slice_index firsts j ≡ length closings) (sym (subst (λ j. (closing_at closings j).link ≡ link) e is)) before.0)
      | inr less ↦ before.1 k (omega (arith, below, less)) is
    ],
  )

pub firsts-end : (closings : List Closing) (count : ℕ) (firsts : List ℕ) → AreFirstsSoFar closings count firsts → length closings ≤ count → AreFirsts closings firsts
firsts-end closings count firsts so past = record {
  each = λ link lt. go link (so.each link lt);
  all = so.all;
} where
  go : (link : ℕ) → IsFirstSoFar closings count link (slice_index firsts link) → IsFirst closings link (slice_index firsts link)
  go link (inr first) = first
  go link (inl before) = record {
    upto = omega (arith, before.0);
    others = λ k below. before.1 k (omega (arith, below, before.0, past));
    here = λ inside. absurd (omega (arith, inside, before.0));
  }

-- a link above all numbers has no closing
pub first-past : (closings : List Closing) (firsts : List ℕ) (link : ℕ) → AreFirsts closings firsts → length firsts ≤ link → IsFirst closings link (length closings)
first-past closings firsts link are past = record {
  upto = omega arith;
  others = λ k below is. absurd (omega (arith, are.all k below, is, past));
  here = λ inside. absurd (omega (arith, inside));
}

-- the first closing of the links of some parts
pub record IsFirstOf (closings : List Closing) (parts : List LinkPart) (at : ℕ) : Type 0 where
  pub upto : at ≤ length closings
  pub others : (k : ℕ) → k < at → has_part parts (closing_at closings k).link ≡ false
  pub here : at < length closings → has_part parts (closing_at closings at).link ≡ true

has-more : (parts : List LinkPart) (i : ℕ) (d : LinkPart) (link : ℕ) → i < length parts → has_part (take (i + 1) parts) link ≡ (has_part (take i parts) link || ((get_or parts i d).link == link))
has-more parts i d link lt =
    ap (λ ps. has_part ps link) (take_more parts i d lt)
    ∙ list_any-append (λ (part : LinkPart). part.link == link) (take i parts) (get_or parts i d ∷ [])
    ∙ ap (λ b. has_part (take i parts) link || b) (or-false ((get_or parts i d).link == link))

pub first-start : (closings : List Closing) (parts : List LinkPart) → IsFirstOf closings (take 0 parts) (length closings)
first-start closings parts = record {
  upto = omega arith;
  others = λ k below. refl;
  here = λ inside. absurd (omega (arith, inside));
}

pub first-more : (closings : List Closing) (parts : List LinkPart) (i : ℕ) (d : LinkPart) (at first : ℕ) → i < length parts → IsFirstOf closings (take i parts) at → IsFirst closings (get_or parts i d).link first → IsFirstOf closings (take (i + 1) parts) (min at first)
first-more closings parts i d at first lt so is = record {
  upto = omega (arith, so.upto);
  others = λ k below. has-more parts i d (closing_at closings k).link lt
      ∙ ap (λ b. b || ((get_or parts i d).link == (closing_at closings k).link)) (so.others k (omega (arith, below)))
      ∙ apart k (omega (arith, below)) ((get_or parts i d).link == (closing_at closings k).link) refl;
  here = λ inside. has-more parts i d (closing_at closings (min at first)).link lt ∙ elim (cases_lt first at) [
    | inl less ↦
        let e : min at first ≡ first = omega (arith, less) in
        subst (λ k. (has_part (take i parts) (closing_at closings k).link || ((get_or parts i d).link == (closing_at closings k).link)) ≡ true) (sym e)
        (ap (λ b. has_part (take i parts) (closing_at closings first).link || b) (eq-eqb (get_or parts i d).link (closing_at closings first).link (sym (is.here (omega (arith, inside, e))))) ∙ or-true (has_part (take i parts) (closing_at closings first).link))
    | inr le ↦
        let e : min at first ≡ at = omega (arith, le) in
        subst (λ k. (has_part (take i parts) (closing_at closings k).link || ((get_or parts i d).link == (closing_at closings k).link)) ≡ true) (sym e)
        (ap (λ b. b || ((get_or parts i d).link == (closing_at closings at).link)) (so.here (omega (arith, inside, e))))
  ];
} where
  apart : (k : ℕ) → k < first → (same : Bool) → ((get_or parts i d).link == (closing_at closings k).link) ≡ same → same ≡ false
  apart k below false e = refl
  apart k below true e = absurd (is.others k below (sym (eqb-true (get_or parts i d).link (closing_at closings k).link e)))

none-before : (path_group : PathGroup) (closings : List Closing) (at : ℕ) → at ≤ length closings → ((k : ℕ) → k < at → uses path_group (closing_at closings k).link ≡ false) → closed_by path_group (reverse (take at closings)) ≡ None
none-before path_group closings zero le unused = first-none path_group
none-before path_group closings (suc at) le unused =
    subst (λ n. closed_by path_group (reverse (take n closings)) ≡ None) (add-one at)
    (first-unused path_group closings at (closing_at closings at) (omega (arith, le)) (get_or_default closings at (record { link = 0; share = 0 }) (closing_at closings at) (omega (arith, le))) (unused at (omega arith))
    (none-before path_group closings at (omega (arith, le)) (λ k below. unused k (omega (arith, below)))))

-- the first closing of the parts of a path group closed it
pub first-closed : (path_group : PathGroup) (parts : List LinkPart) → AreParts path_group parts → (closings : List Closing) (at : ℕ) → IsFirstOf closings parts at → at < length closings → closed_by path_group (reverse closings) ≡ Some (closing_at closings at).link
first-closed path_group parts are closings at is inside =
    first-used path_group closings at (closing_at closings at) inside (get_or_default closings at (record { link = 0; share = 0 }) (closing_at closings at) inside)
    (sym (AreParts-used path_group parts (closing_at closings at).link are) ∙ is.here inside)
    (none-before path_group closings at is.upto (λ k below. sym (AreParts-used path_group parts (closing_at closings k).link are) ∙ is.others k below))

pub none-closed : (path_group : PathGroup) (parts : List LinkPart) → AreParts path_group parts → (closings : List Closing) (at : ℕ) → IsFirstOf closings parts at → length closings ≤ at → closed_by path_group (reverse closings) ≡ None
none-closed path_group parts are closings at is past =
    subst (λ cs. closed_by path_group (reverse cs) ≡ None) (take_all at closings past)
    (none-before path_group closings at is.upto (λ k below. sym (AreParts-used path_group parts (closing_at closings k).link are) ∙ is.others k below))
