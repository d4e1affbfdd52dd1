-- What was told last before a place.
use Rattle.std.proofs.Common.{◌≡◌, ℕ, zero, suc, ◌<◌, ◌≤◌, Bool, true, false, cond, ltb, List, [], ◌∷◌, ◌++◌, length, get_or, take, refl, sym, ◌∙◌, ap, subst, arith, le_refl, ◌-◌, inl, inr}
use Rattle.std.specs.List.{All}
use Rattle.std.specs.List.Sorted.{IsPartitionPoint}
use Rattle.std.proofs.lemmas.Bool.{lt-ltb, le-ltb, cases_lt}
use Rattle.std.proofs.lemmas.List.{take-append-le, take_all, length_push}
use Rattle.std.proofs.lemmas.List.Elements.{All-push, All-weaker}
use Rattle.std.proofs.lemmas.List.Sorted.{IsNonDecreasingBy-push}
use Rattle.bwe_specs.specs.declared.report.Report.{Report}
use Rattle.report_book.specs.declared.told.Told.{Told}
use Rattle.report_book.specs.Told.{amount_before, Tells}

-- the amount of the last of so many entries, or else the first one
abbrev pub amount_of : ℕ → List Told → ℕ → Told → ℕ
amount_of first told zero d = first
amount_of first told (suc count) d = (get_or told count d).amount

-- where the entries before the place are so many
pub amount_before-split : (first : ℕ) (told : List Told) (place count : ℕ) (d : Told) → count ≤ length told
    → IsPartitionPoint (λ entry. ltb entry.place place ≡ true) (λ entry. ltb entry.place place ≡ false) told count
    → amount_before first told place ≡ amount_of first told count d
amount_before-split first [] place zero d within split = refl
amount_before-split first [] place (suc count) d within split = absurd (omega arith)
amount_before-split first (entry ∷ told) place zero d within split =
    ap (λ (b : Bool). cond b (amount_before entry.amount told place) first) (split.1 0 d (omega arith) (omega arith))
amount_before-split first (entry ∷ told) place (suc count) d within split =
    let here : ltb entry.place place ≡ true = split.0 0 d (omega arith) (omega arith) in
    let rest : amount_before entry.amount told place ≡ amount_of entry.amount told count d =
    amount_before-split entry.amount told place count d (omega arith) (
      λ k e low high. split.0 (suc k) e (omega arith) (omega arith),
      λ k e low high. split.1 (suc k) e (omega arith) (omega arith),
    ) in
    ap (λ (b : Bool). cond b (amount_before entry.amount told place) first) here ∙ rest ∙ last count
  where
    last : (n : ℕ) → amount_of entry.amount told n d ≡ (get_or (entry ∷ told) n d).amount
    last zero = refl
    last (suc n) = refl

-- a later entry leaves what was told before its place
amount_before-earlier : (first : ℕ) (told : List Told) (entry : Told) (place : ℕ) → place ≤ entry.place → amount_before first (told ++ entry ∷ []) place ≡ amount_before first told place
amount_before-earlier first [] entry place later =
    ap (λ (b : Bool). cond b entry.amount first) (le-ltb entry.place place later)
amount_before-earlier first (other ∷ told) entry place later =
    ap (λ amount. cond (ltb other.place place) amount first) (amount_before-earlier other.amount told entry place later)

-- the last entry is the one that was told last before every later place
amount_before-later : (first : ℕ) (told : List Told) (entry : Told) (place : ℕ) → All (λ other. other.place < place) told → entry.place < place
    → amount_before first (told ++ entry ∷ []) place ≡ entry.amount
amount_before-later first [] entry place before last = ap (λ (b : Bool). cond b entry.amount first) (lt-ltb entry.place place last)
amount_before-later first (other ∷ told) entry place before last =
    ap (λ (b : Bool). cond b (amount_before other.amount (told ++ entry ∷ []) place) first) (lt-ltb other.place place (before 0 other (omega arith)))
    ∙ amount_before-later other.amount told entry place (λ k d inside. before (suc k) d (omega arith)) last

-- where nothing stands between two places, what was told before them is the same
amount_before-between : (first : ℕ) (told : List Told) (place place' : ℕ) → All (λ other. other.place < place) told → place ≤ place' → amount_before first told place' ≡ amount_before first told place
amount_before-between first [] place place' before further = refl
amount_before-between first (other ∷ told) place place' before further =
    let here = before 0 other (omega arith) in
    ap (λ (b : Bool). cond b (amount_before other.amount told place') first) (lt-ltb other.place place' (omega (arith, here)))
    ∙ amount_before-between other.amount told place place' (λ k d inside. before (suc k) d (omega arith)) further
    ∙ sym (ap (λ (b : Bool). cond b (amount_before other.amount told place) first) (lt-ltb other.place place here))

-- nothing was told
pub Tells-none : (first : ℕ) (after : List Report → ℕ) → after [] ≡ first → Tells first after [] []
Tells-none first after none = record {
  rising = λ i j d le inside. absurd (omega arith);
  within = λ k d inside. absurd (omega arith);
  right = λ prefix le. sym none ∙ sym (ap after (take_all prefix [] (omega arith)));
}

-- at one report more a prefix is one of the old ones, or all of them
at-push : {X : Type 0} (P : ℕ → Type 0) (xs : List X) (x : X) → ((n : ℕ) → n ≤ length xs → P n) → P (suc (length xs)) → (n : ℕ) → n ≤ length (xs ++ x ∷ []) → P n
at-push P xs x old all n within =
    elim (cases_lt (length xs) n) [
      | inl more ↦ subst P (omega (arith, length_push xs x)) all
      | inr less ↦ old n less
    ]

-- the report tells the amount
pub Tells-told : (first : ℕ) (after : List Report → ℕ) (reports : List Report) (report : Report) (told : List Told)
    → after (reports ++ report ∷ []) ≡ report.amount → Tells first after reports told
    → Tells first after (reports ++ report ∷ []) (told ++ record { place = length reports; amount = report.amount } ∷ [])
Tells-told first after reports report told more tells =
    let entry : Told = record { place = length reports; amount = report.amount } in
    let longer : length reports ≤ length (reports ++ report ∷ []) = omega (arith, length_push reports report) in
    let inside : All (λ other. other.place < length (reports ++ report ∷ [])) told =
    All-weaker (λ (other : Told). other.place < length reports) (λ other. other.place < length (reports ++ report ∷ [])) (λ other lt. omega arith) told tells.within in
    let beyond : All (λ other. other.place < suc (length reports)) told =
    All-weaker (λ (other : Told). other.place < length reports) (λ other. other.place < suc (length reports)) (λ other lt. omega arith) told tells.within in
    record {
      rising = IsNonDecreasingBy-push (λ (other : Told). other.place) told entry tells.rising (λ d some. let lt = tells.within (length told - 1) d (omega arith) in omega (arith, lt));
      within = All-push (λ (other : Told). other.place < length (reports ++ report ∷ [])) told entry inside (omega (arith, length_push reports report));
      right = at-push (λ n. amount_before first (told ++ entry ∷ []) n ≡ after (take n (reports ++ report ∷ []))) reports report
          (λ n le. amount_before-earlier first told entry n le ∙ tells.right n le ∙ sym (ap after (take-append-le n reports (report ∷ []) le)))
          (amount_before-later first told entry (suc (length reports)) beyond (omega arith) ∙ sym more ∙ sym (ap after (take_all (suc (length reports)) (reports ++ report ∷ []) (omega (arith, length_push reports report)))));
    }

-- the report tells of something else
pub Tells-kept : (first : ℕ) (after : List Report → ℕ) (reports : List Report) (report : Report) (told : List Told)
    → after (reports ++ report ∷ []) ≡ after reports → Tells first after reports told → Tells first after (reports ++ report ∷ []) told
Tells-kept first after reports report told same tells = record {
  rising = tells.rising;
  within = All-weaker (λ (other : Told). other.place < length reports) (λ other. other.place < length (reports ++ report ∷ [])) (λ other lt. omega (arith, length_push reports report)) told tells.within;
  right = at-push (λ n. amount_before first told n ≡ after (take n (reports ++ report ∷ []))) reports report
      (λ n le. tells.right n le ∙ sym (ap after (take-append-le n reports (report ∷ []) le)))
      (amount_before-between first told (length reports) (suc (length reports)) tells.within (omega arith)
      ∙ tells.right (length reports) (le_refl (length reports)) ∙ ap after (take_all (length reports) reports (le_refl (length reports))) ∙ sym same
      ∙ sym (ap after (take_all (suc (length reports)) (reports ++ report ∷ []) (omega (arith, length_push reports report)))));
}
