-- Each step keeps the roll.
use Rattle.std.proofs.Common.{◌≡◌, ◌≢◌, ◌⊎◌, ◌==◌, ℕ, zero, suc, ◌+◌, ◌<◌, List, [], ◌∷◌, ◌++◌, length, set, Bool, true, false, true≢false, refl, sym, ap, ◌∙◌, subst, inl, inr, ⊎_elim, arith, eq-eqb, ne_eqb}
use Rattle.std.specs.Prelude.{if◌then◌else◌, Vec, slice_index, All}
use Rattle.std.specs.declared.alloc.Global.{Global}
use mathlib.Core.Option.{some, none, some-ne-none, some-injective}
use lib.ListN.{get_elem?}
use prog.Atomic.{either}
use Rattle.atomic_table.specs.Table.{State, Me, keeps, step, Allows, Splits, Joins}
use Rattle.atomic_table.proofs.Lists.{at_set, set_again}
use Rattle.bwe_specs.specs.declared.report.Report.{Report}
use Rattle.board_log.specs.declared.roll.Knows.{Knows}
use Rattle.board_log.specs.declared.roll.PlacedReport.{PlacedReport}
use Rattle.board_log.proofs.Placing.{own_more, own_same}
use Rattle.board_log.specs.Roll.{IsBy, placed, own_of, knower, member, nobody, both_of, one_seat_more, newcomer, with_member, without_member, member_of, Fits, IsKept, longer_by, AppendsPiece, ChecksOwn}

abbrev pub ruled : State (Vec Report Global) Knows → Type 0
ruled s = IsKept s.words s.views

off : false ≡ true → ⊥
off e = true≢false (sym e)

at_end : {A : Type 0} → (l : List A) (a b : A) (j : ℕ) → get_elem? (l ++ a ∷ []) j ≡ some b → (get_elem? l j ≡ some b) ⊎ ((length l ≡ j) × (a ≡ b))
at_end [] a b zero e = inr (refl, some-injective a b e)
at_end [] a b (suc j) e = absurd (some-ne-none b (sym e))
at_end (x ∷ xs) a b zero e = inl e
at_end (x ∷ xs) a b (suc j) e = ⊎_elim (λ t. inl t) (λ t. inr (ap suc t.0, t.1)) (at_end xs a b j e)

-- the owner of each number, where the number i is now that of the seat s
abbrev put : ℕ → ℕ → (ℕ → ℕ) → ℕ → ℕ
put i s owner j = if j == i then s else owner j

put_same : (i s : ℕ) (owner : ℕ → ℕ) → put i s owner i ≡ s
put_same i s owner = ap (λ (b : Bool). if b then s else owner i) (eq-eqb i i refl)

put_other : (i s : ℕ) (owner : ℕ → ℕ) (j : ℕ) → j ≢ i → put i s owner j ≡ owner j
put_other i s owner j ne = ap (λ (b : Bool). if b then s else owner j) (ne_eqb j i ne)

module _ (log : List Report) (seats : ℕ) (owner : ℕ → ℕ) where
  -- what two seats with one number come to
  one_owner : (seat by other : ℕ) (v w : Knows) → v.reports ≡ true → w.reports ≡ true → Fits seat log seats owner by v → Fits seat log seats owner other w → v.number ≡ w.number → by ≡ other
  one_owner seat by other v w rv rw f g same = sym (f.1 rv).1 ∙ ap owner same ∙ (g.1 rw).1

pub begins : IsKept (0 ∷ []) (knower [] 0 ∷ [])
begins = (0, [], 0, λ _. 0, refl, one)
  where
    one : (by : ℕ) (v : Knows) → get_elem? (knower [] 0 ∷ []) by ≡ some v → Fits 0 [] 0 (λ _. 0) by v
    one zero v e = subst (Fits 0 [] 0 (λ _. 0) 0) (some-injective _ _ e) ((λ _. (refl, refl, refl)), (λ c. absurd (off c)))
    one (suc by) v e = absurd (some-ne-none v (sym e))

-- the seat at j, after the seat `id` was changed to w
set_cases : (P : ℕ → Knows → Type 0) (views : List Knows) (id j : ℕ) (w u : Knows) → P id w → ((k : ℕ) (x : Knows) → k ≢ id → get_elem? views k ≡ some x → P k x) → get_elem? (set views id w) j ≡ some u → P j u
set_cases P views id j w u mine others e =
    ⊎_elim
    (λ (t : (j ≡ id) × (w ≡ u)). subst (λ (y : ℕ × Knows). P y.0 y.1) (λ i. (sym t.0 i, t.1 i)) mine)
    (λ (t : (j ≢ id) × (get_elem? views j ≡ some u)). others j u t.0 t.1)
    (at_set views id j w u e)

enrolls_one : (id seats : ℕ) → Splits ruled id (knower [] seats) (knower [] (seats + 1)) (member seats [])
enrolls_one id seats s h at =
    let seat = h.0 in
    let log = h.1 in
    let seats' = h.2 in
    let owner = h.3 in
    let mine = (h.5 id (knower [] seats) at).0 refl in
    let w = knower [] (seats + 1) in
    let new = set s.views id w in
    let owner' : ℕ → ℕ = put seats (length new) owner in (
      id,
      [],
      seats + 1,
      owner',
      h.4 ∙ ap (λ l. length l ∷ []) (sym mine.1),
      λ j u e. ⊎_elim
          (λ (t : get_elem? new j ≡ some u). set_cases (λ k x. Fits id [] (seats + 1) owner' k x) s.views id j w u ((λ _. (refl, refl, refl)), (λ c. absurd (off c)))
          (λ k x apart there.
          let old = h.5 k x there in (
            (λ c. absurd (apart ((old.0 c).0 ∙ sym mine.0))),
            (λ c.
                let r = old.1 c in
                let n : ℕ = x.number in
                let lt : n < seats = subst (λ m. n < m) (sym mine.2) r.0 in
                let ne : n ≢ seats = λ e. absurd (omega arith) in
                let lt' : n < seats + 1 = omega arith in
                (lt', put_other seats (length new) owner n ne ∙ r.1, r.2 ∙ ap (own_of n) (sym mine.1))),
          ))
          t)
          (λ (t : (length new ≡ j) × (member seats [] ≡ u)). subst (λ (y : ℕ × Knows). Fits id [] (seats + 1) owner' y.0 y.1) (λ i. (t.0 i, t.1 i))
          ((λ c. absurd (off c)), (λ _. let lt : seats < seats + 1 = omega arith in (lt, put_same seats (length new) owner, refl))))
          (at_end new (member seats []) u j e),
    )

pub enrolls : (id : ℕ) (v : Knows) (seats : ℕ) → v ≡ knower [] seats → Splits ruled id v (one_seat_more v) (newcomer v)
enrolls id v seats is = subst (λ (u : Knows). Splits ruled id u (one_seat_more u) (newcomer u)) (sym is) (enrolls_one id seats)

takes_in_one : (id : ℕ) (log : List Report) (seats other number : ℕ) (own : List PlacedReport) → Joins ruled id (knower log seats) other (member number own) (both_of log seats number own) nobody
takes_in_one id log seats other number own s h at apart there =
    let seat = h.0 in
    let seats' = h.2 in
    let owner = h.3 in
    let b = both_of log seats number own in
    let w = member number own in
    let mine = (h.5 id (knower log seats) at).0 refl in
    let was : get_elem? s.views other ≡ some w = ⊎_elim (λ (t : (other ≡ id) × (b ≡ w)). absurd (apart t.0)) (λ (t : (other ≢ id) × (get_elem? s.views other ≡ some w)). t.1) (at_set s.views id other b w there) in
    let theirs = (h.5 other w was).1 refl in
    let owner' : ℕ → ℕ = put number id owner in
    let P : ℕ → Knows → Type 0 = λ k x. Fits seat h.1 seats' owner' k x in (
      seat,
      h.1,
      seats',
      owner',
      h.4,
      λ j u e. set_cases P (set s.views id b) other j nobody u ((λ c. absurd (off c)), (λ c. absurd (off c)))
          (λ k x ne at'. ⊎_elim
          (λ (t : (k ≡ id) × (b ≡ x)). subst (λ (y : ℕ × Knows). P y.0 y.1) (λ i. (sym t.0 i, t.1 i)) ((λ _. mine), (λ _. (theirs.0, put_same number id owner, theirs.2))))
          (λ (t : (k ≢ id) × (get_elem? s.views k ≡ some x)).
          let old = h.5 k x t.1 in (
            old.0,
            (λ c.
                let r = old.1 c in
                let ne' : x.number ≢ number = λ e'. ne (sym r.1 ∙ ap owner e' ∙ theirs.1) in
                (r.0, put_other number id owner x.number ne' ∙ r.1, r.2)),
          ))
          (at_set s.views id k b x at'))
          e,
    )

pub takes_in : (id : ℕ) (v : Knows) (other : ℕ) (w : Knows) (log : List Report) (seats number : ℕ) (own : List PlacedReport) → v ≡ knower log seats → w ≡ member number own → Joins ruled id v other w (with_member v w) nobody
takes_in id v other w log seats number own is is' =
    subst (λ (x : Knows × Knows). Joins ruled id x.0 other x.1 (with_member x.0 x.1) nobody) (λ i. (sym is i, sym is' i)) (takes_in_one id log seats other number own)

gives_back_one : (id : ℕ) (log : List Report) (seats number : ℕ) (own : List PlacedReport) → Splits ruled id (both_of log seats number own) (knower log seats) (member number own)
gives_back_one id log seats number own s h at =
    let seat = h.0 in
    let seats' = h.2 in
    let owner = h.3 in
    let b = both_of log seats number own in
    let mine = (h.5 id b at).0 refl in
    let mine' = (h.5 id b at).1 refl in
    let w = knower log seats in
    let new = set s.views id w in
    let owner' : ℕ → ℕ = put number (length new) owner in
    let P : ℕ → Knows → Type 0 = λ k x. Fits seat h.1 seats' owner' k x in (
      seat,
      h.1,
      seats',
      owner',
      h.4,
      λ j u e. ⊎_elim
          (λ (t : get_elem? new j ≡ some u). set_cases P s.views id j w u ((λ _. mine), (λ c. absurd (off c)))
          (λ k x apart there.
          let old = h.5 k x there in (
            old.0,
            (λ c.
                let r = old.1 c in
                let ne' : x.number ≢ number = λ e'. apart (sym r.1 ∙ ap owner e' ∙ mine'.1) in
                (r.0, put_other number (length new) owner x.number ne' ∙ r.1, r.2)),
          ))
          t)
          (λ (t : (length new ≡ j) × (member number own ≡ u)). subst (λ (y : ℕ × Knows). P y.0 y.1) (λ i. (t.0 i, t.1 i))
          ((λ c. absurd (off c)), (λ _. (mine'.0, put_same number (length new) owner, mine'.2))))
          (at_end new (member number own) u j e),
    )

pub gives_back : (id : ℕ) (v : Knows) (log : List Report) (seats number : ℕ) (own : List PlacedReport) → v ≡ both_of log seats number own → Splits ruled id v (without_member v) (member_of v)
gives_back id v log seats number own is = subst (λ (u : Knows). Splits ruled id u (without_member u) (member_of u)) (sym is) (gives_back_one id log seats number own)

appends_one : (slots id : ℕ) (log : List Report) (seats number : ℕ) (own : List PlacedReport) (piece : Vec Report Global) (old new : ℕ) → old ≡ length log → new ≡ length (log ++ piece.items) → All (IsBy number) piece.items
    → Allows ruled slots id (both_of log seats number own, []) 0 (λ n. either (n == old) new n) (AppendsPiece (step slots 0 old new (some piece)) (both_of log seats number own, []))
appends_one slots id log seats number own piece old new is_old is_new all s h deep at small =
    let seat = h.0 in
    let seats' = h.2 in
    let owner = h.3 in
    let v = both_of log seats number own in
    let mine = (h.5 id v at).0 refl in
    let mine' = (h.5 id v at).1 refl in
    let w = longer_by v piece.items in
    let log' : List Report = log ++ piece.items in
    let P : ℕ → Knows → Type 0 = λ k x. Fits seat log' seats' owner k x in
    let found : slice_index s.words 0 ≡ old = ap (λ ws. slice_index ws 0) h.4 ∙ ap length (sym mine.1) ∙ sym is_old in
    let becomes : either (slice_index s.words 0 == old) new (slice_index s.words 0) ≡ length log' = ap (λ (b : Bool). either b new (slice_index s.words 0)) (eq-eqb _ _ found) ∙ is_new in
    let words : set s.words 0 (either (slice_index s.words 0 == old) new (slice_index s.words 0)) ≡ length log' ∷ [] = (λ i. set (h.4 i) 0 (becomes i)) in (
      w,
      keeps,
      tt,
      (
        seat,
        log',
        seats',
        owner,
        words,
        λ j u e. set_cases P s.views id j w u
            ((λ _. (mine.0, refl, mine.2)), (λ _. (mine'.0, mine'.1, ap (λ o. o ++ placed number (length log) piece.items) (mine'.2 ∙ ap (own_of number) (sym mine.1)) ∙ sym (own_more number log piece.items))))
            (λ k x apart there.
            let was = h.5 k x there in (
              (λ c. absurd (apart ((was.0 c).0 ∙ sym mine.0))),
              (λ c.
                  let r = was.1 c in
                  let ne : x.number ≢ number = λ e'. apart (sym r.1 ∙ ap owner e' ∙ mine'.1) in
                  (r.0, r.1, r.2 ∙ ap (own_of x.number) (sym mine.1) ∙ sym (own_same x.number number log piece.items ne all))),
            ))
            e,
      ),
      (refl, refl),
    )

pub appends : (slots id : ℕ) (me : Me (Vec Report Global) Knows) (log : List Report) (seats number : ℕ) (own : List PlacedReport) (piece : Vec Report Global) (old new : ℕ) → me ≡ (both_of log seats number own, []) → old ≡ length log → new ≡ length (log ++ piece.items) → All (IsBy number) piece.items
    → Allows ruled slots id me 0 (λ n. either (n == old) new n) (AppendsPiece (step slots 0 old new (some piece)) me)
appends slots id me log seats number own piece old new is is_old is_new all =
    subst (λ (u : Me (Vec Report Global) Knows). Allows ruled slots id u 0 (λ n. either (n == old) new n) (AppendsPiece (step slots 0 old new (some piece)) u)) (sym is) (appends_one slots id log seats number own piece old new is_old is_new all)

set_itself : (ws : List ℕ) (n : ℕ) → ws ≡ n ∷ [] → set ws 0 (slice_index ws 0) ≡ ws
set_itself ws n is = subst (λ (l : List ℕ). set l 0 (slice_index l 0) ≡ l) (sym is) refl

checks_one : (slots id : ℕ) (log : List Report) (seats number : ℕ) (own : List PlacedReport)
    → Allows ruled slots id (both_of log seats number own, []) 0 (λ n. n) (ChecksOwn (step slots 0 0 0 none) (both_of log seats number own, []))
checks_one slots id log seats number own s h deep at small =
    let v = both_of log seats number own in
    let mine = (h.5 id v at).0 refl in
    let mine' = (h.5 id v at).1 refl in (
      v,
      keeps,
      tt,
      subst (λ (x : List ℕ × List Knows). IsKept x.0 x.1) (λ i. (sym (set_itself s.words _ h.4) i, sym (set_again s.views id v at) i)) h,
      (refl, λ _. mine'.2 ∙ ap (own_of number) (sym mine.1)),
    )

pub checks : (slots id : ℕ) (me : Me (Vec Report Global) Knows) (log : List Report) (seats number : ℕ) (own : List PlacedReport) → me ≡ (both_of log seats number own, [])
    → Allows ruled slots id me 0 (λ n. n) (ChecksOwn (step slots 0 0 0 none) me)
checks slots id me log seats number own is =
    subst (λ (u : Me (Vec Report Global) Knows). Allows ruled slots id u 0 (λ n. n) (ChecksOwn (step slots 0 0 0 none) u)) (sym is) (checks_one slots id log seats number own)
