-- A reporter's own list in a log.
use Rattle.std.proofs.Common.{◌≡◌, ◌≢◌, ◌==◌, ℕ, zero, suc, ◌+◌, ◌<◌, ◌≤◌, List, [], ◌∷◌, ◌++◌, length, Bool, true, false, Some, refl, sym, ap, ◌∙◌, subst, arith, length-append, eq-eqb, ne_eqb, zero-le, zero-add, append_assoc}
use Rattle.std.specs.Prelude.{if◌then◌else◌, All, slice_index_or, slice_get, filter, nat_lt}
use Rattle.std.proofs.lemmas.Bool.Decides.{nat_tests}
use Rattle.std.proofs.lemmas.List.{append-nil}
use mathlib.Core.List.{IsPrefix}
use Rattle.bwe_specs.specs.declared.report.Report.{Report}
use Rattle.board_log.specs.declared.roll.PlacedReport.{PlacedReport}
use Rattle.board_log.specs.Roll.{IsBy, placed, own_of, sent_of_first}
use Rattle.board_log.specs.Laws.{without_places, StandIn, OwnListsAreTheReports, OwnListsGrowByPieces, OwnListsStandInTheLog, OwnListsAddUp, PlacedPiecesAreThePieces}
use Rattle.board_log.proofs.Prefixes.{prefix_get}

abbrev entry : ℕ → Report → PlacedReport
entry place report = record { place = place; report = report }

pub placed-append : (number place : ℕ) (xs ys : List Report) → placed number place (xs ++ ys) ≡ placed number place xs ++ placed number (place + length xs) ys
placed-append number place [] ys = let e : place ≡ place + 0 = omega arith in ap (λ p. placed number p ys) e
placed-append number place (x ∷ xs) ys =
    let e : suc place + length xs ≡ place + suc (length xs) = omega arith in
    let rest : placed number (suc place) (xs ++ ys) ≡ placed number (suc place) xs ++ placed number (place + suc (length xs)) ys =
    placed-append number (suc place) xs ys ∙ ap (λ p. placed number (suc place) xs ++ placed number p ys) e in
    by_case (x.reporter == number) _ _ _ rest
  where
    by_case : (b : Bool) (l r t : List PlacedReport) → l ≡ r ++ t → (if b then entry place x ∷ l else l) ≡ (if b then entry place x ∷ r else r) ++ t
    by_case true l r t e = ap (λ k. entry place x ∷ k) e
    by_case false l r t e = e

pub own_more : OwnListsGrowByPieces
own_more number log piece = placed-append number 0 log piece ∙ ap (λ p. placed number 0 log ++ placed number p piece) (zero-add (length log))

-- reports of another number have no place among those of this one
pub placed_none : (number other place : ℕ) (xs : List Report) → number ≢ other → All (IsBy other) xs → placed number place xs ≡ []
placed_none number other place [] ne all = refl
placed_none number other place (x ∷ xs) ne all =
    let no : (x.reporter == number) ≡ false = ne_eqb x.reporter number (λ e. ne (sym e ∙ all 0 x (omega arith))) in
    ap (λ (b : Bool). if b then entry place x ∷ placed number (suc place) xs else placed number (suc place) xs) no ∙ placed_none number other (suc place) xs ne (λ k d lt. all (suc k) d (omega arith))

pub own_same : (number other : ℕ) (log piece : List Report) → number ≢ other → All (IsBy other) piece → own_of number (log ++ piece) ≡ own_of number log
own_same number other log piece ne all = own_more number log piece ∙ ap (λ l. own_of number log ++ l) (placed_none number other (length log) piece ne all) ∙ append-nil (own_of number log)

-- a reporter has at most all reports of the log
pub length-placed-le : (number place : ℕ) (log : List Report) → length (placed number place log) ≤ length log
length-placed-le number place [] = zero-le
length-placed-le number place (x ∷ xs) = by_case (x.reporter == number) (placed number (suc place) xs) (length-placed-le number (suc place) xs)
  where
    by_case : (b : Bool) (l : List PlacedReport) → length l ≤ length xs → length (if b then entry place x ∷ l else l) ≤ suc (length xs)
    by_case true l h = omega arith
    by_case false l h = omega arith

-- all reports of a piece are of its reporter
pub length-placed : (number place : ℕ) (piece : List Report) → All (IsBy number) piece → length (placed number place piece) ≡ length piece
length-placed number place [] all = refl
length-placed number place (x ∷ xs) all =
    let yes : (x.reporter == number) ≡ true = eq-eqb x.reporter number (all 0 x (omega arith)) in
    ap (λ (b : Bool). length (if b then entry place x ∷ placed number (suc place) xs else placed number (suc place) xs)) yes
    ∙ ap suc (length-placed number (suc place) xs (λ k d lt. all (suc k) d (omega arith)))

pub placed_pieces : PlacedPiecesAreThePieces
placed_pieces number place [] all = refl
placed_pieces number place (x ∷ xs) all =
    let yes : (x.reporter == number) ≡ true = eq-eqb x.reporter number (all 0 x (omega arith)) in
    ap (λ (b : Bool). without_places (if b then entry place x ∷ placed number (suc place) xs else placed number (suc place) xs)) yes
    ∙ ap (λ l. x ∷ l) (placed_pieces number (suc place) xs (λ k d lt. all (suc k) d (omega arith)))

same_reports : (number place : ℕ) (log : List Report) → without_places (placed number place log) ≡ filter (λ report. report.reporter == number) log
same_reports number place [] = refl
same_reports number place (x ∷ xs) = by_case (x.reporter == number) _ _ (same_reports number (suc place) xs)
  where
    by_case : (b : Bool) (l : List PlacedReport) (r : List Report) → without_places l ≡ r → without_places (if b then entry place x ∷ l else l) ≡ (if b then x ∷ r else r)
    by_case true l r e = ap (λ k. x ∷ k) e
    by_case false l r e = e

pub own_reports : OwnListsAreTheReports
own_reports number log = same_reports number 0 log

get_past : (front xs : List Report) (x : Report) → slice_get (front ++ x ∷ xs) (length front) ≡ Some x
get_past [] xs x = refl
get_past (y ∷ ys) xs x = get_past ys xs x

one_stands : (front xs : List Report) (x : Report) (rest : List PlacedReport) (d : PlacedReport)
    → ((j : ℕ) → j < length rest → slice_get (front ++ x ∷ xs) (slice_index_or rest j d).place ≡ Some (slice_index_or rest j d).report)
    → (b : Bool) (k : ℕ) → k < length (if b then entry (length front) x ∷ rest else rest)
    → slice_get (front ++ x ∷ xs) (slice_index_or (if b then entry (length front) x ∷ rest else rest) k d).place ≡ Some (slice_index_or (if b then entry (length front) x ∷ rest else rest) k d).report
one_stands front xs x rest d step true zero h = get_past front xs x
one_stands front xs x rest d step true (suc j) h = step j (omega arith)
one_stands front xs x rest d step false j h = step j h

-- each of a reporter's reports stands in the log at its place
placed_stand : (number : ℕ) (front log : List Report) (k : ℕ) (d : PlacedReport) → k < length (placed number (length front) log)
    → slice_get (front ++ log) (slice_index_or (placed number (length front) log) k d).place ≡ Some (slice_index_or (placed number (length front) log) k d).report
placed_stand number front [] k d lt = absurd (omega arith)
placed_stand number front (x ∷ xs) k d lt =
    let longer : length (front ++ x ∷ []) ≡ suc (length front) = omega (arith, length-append front (x ∷ [])) in
    let whole : (front ++ x ∷ []) ++ xs ≡ front ++ x ∷ xs = append_assoc front (x ∷ []) xs in
    one_stands front xs x (placed number (suc (length front)) xs) d
    (λ j h.
    let P : List Report → ℕ → Type 0 = λ l n. slice_get l (slice_index_or (placed number n xs) j d).place ≡ Some (slice_index_or (placed number n xs) j d).report in
    let h' : j < length (placed number (length (front ++ x ∷ [])) xs) = subst (λ n. j < length (placed number n xs)) (sym longer) h in
    subst (λ n. P (front ++ x ∷ xs) n) longer (subst (λ l. P l (length (front ++ x ∷ []))) whole (placed_stand number (front ++ x ∷ []) xs j d h')))
    (x.reporter == number) k lt

pub own_stands : OwnListsStandInTheLog
own_stands number log k d lt = placed_stand number [] log k d lt

-- they stand in each longer log too
pub stands_on : (own : List PlacedReport) (log longer : List Report) → StandIn log own → IsPrefix log longer → StandIn longer own
stands_on own log longer stand begins k d lt = prefix_get log longer _ _ begins (stand k d lt)

-- how many reports the first so many numbers have, from a place on
abbrev total : ℕ → ℕ → List Report → ℕ
total zero place log = 0
total (suc n) place log = total n place log + length (placed n place log)

one : (b c d : Bool) (r n t l : ℕ) → (r == n) ≡ b → nat_lt r n ≡ c → nat_lt r (suc n) ≡ d → (x : PlacedReport) (rest : List PlacedReport) → length rest ≡ l
    → (t + (if c then 1 else 0)) + length (if b then x ∷ rest else rest) ≡ (t + l) + (if d then 1 else 0)
one true true d r n t l eb ec ed x rest len = absurd (grind (arith, nat_tests))
one true false true r n t l eb ec ed x rest len = omega (arith, len)
one true false false r n t l eb ec ed x rest len = absurd (grind (arith, nat_tests))
one false true true r n t l eb ec ed x rest len = omega (arith, len)
one false true false r n t l eb ec ed x rest len = absurd (grind (arith, nat_tests))
one false false true r n t l eb ec ed x rest len = absurd (grind (arith, nat_tests))
one false false false r n t l eb ec ed x rest len = omega (arith, len)

total_cons : (n place : ℕ) (x : Report) (xs : List Report) → total n place (x ∷ xs) ≡ total n (suc place) xs + (if nat_lt x.reporter n then 1 else 0)
total_cons zero place x xs = none (nat_lt x.reporter 0) refl
  where
    none : (b : Bool) → nat_lt x.reporter 0 ≡ b → 0 ≡ 0 + (if b then 1 else 0)
    none true e = absurd (grind (arith, nat_tests))
    none false e = refl
total_cons (suc n) place x xs =
    ap (λ t. t + length (placed n place (x ∷ xs))) (total_cons n place x xs)
    ∙ one (x.reporter == n) (nat_lt x.reporter n) (nat_lt x.reporter (suc n)) x.reporter n (total n (suc place) xs) (length (placed n (suc place) xs)) refl refl refl (entry place x) (placed n (suc place) xs) refl

nothing : (n place : ℕ) → total n place [] ≡ 0
nothing zero place = refl
nothing (suc n) place = ap (λ t. t + 0) (nothing n place)

total_all : (n place : ℕ) (log : List Report) → All (λ r. r.reporter < n) log → total n place log ≡ length log
total_all n place [] all = nothing n place
total_all n place (x ∷ xs) all =
    let lt : x.reporter < n = all 0 x (omega arith) in
    let yes : nat_lt x.reporter n ≡ true = grind (arith, nat_tests) in
    let rest : total n (suc place) xs ≡ length xs = total_all n (suc place) xs (λ k d h. all (suc k) d (omega arith)) in
    total_cons n place x xs ∙ ap (λ (b : Bool). total n (suc place) xs + (if b then 1 else 0)) yes ∙ omega (arith, rest)

total_sent : (n : ℕ) (log : List Report) → sent_of_first n log ≡ total n 0 log
total_sent zero log = refl
total_sent (suc n) log = ap (λ t. t + length (own_of n log)) (total_sent n log)

pub own_lists_add : OwnListsAddUp
own_lists_add reporters log all = total_sent reporters log ∙ total_all reporters 0 log all
