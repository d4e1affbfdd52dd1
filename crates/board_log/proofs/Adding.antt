-- The steps on the history keep its rule, and a piece is added behind all that had been seen.
use Rattle.std.proofs.Common.{◌≡◌, ◌≢◌, ◌⊎◌, ℕ, zero, suc, ◌<◌, ◌≤◌, ◌==◌, Bool, true, false, List, [], ◌∷◌, ◌++◌, length, get_or, set, take, refl, ap, sym, ◌∙◌, subst, arith, inl, inr, None, true≢false, eq-eqb, ne_eqb}
use Rattle.std.specs.List.{All}
use Rattle.std.proofs.lemmas.List.{append-nil}
use Rattle.std.proofs.lemmas.List.Concat.{flat_map-append}
use Rattle.std.proofs.lemmas.Bool.Decides.{nat_tests}
use mathlib.Core.List.{IsPrefix}
use prog.Atomic.{either}
use Rattle.logbook.specs.Pages.{Cell, cell, Nib, nib, gives, adds, no_nib, may_write, step, Moves}
use Rattle.bwe_specs.specs.declared.report.Report.{Report}
use Rattle.board_log.specs.declared.history.Entry.{Entry}
use Rattle.board_log.specs.History.{log_of, AreFilled, HasEnded, IsHome, AreGiven, GivesPen, AddsPiece, pieces_from, key_after}
use Rattle.board_log.proofs.Prefixes.{prefix_take, prefix_trans, prefix_flat}

abbrev pub shown : List Entry → List Entry
shown log = []

abbrev pub moved : List Entry → List Entry → ℕ → Type 0
moved xs ys n = Unit {0}

all_rest : {A : Type 0} (P : A → Type 0) (x : A) (xs : List A) → All P (x ∷ xs) → All P xs
all_rest P x xs all = λ k d within. all (suc k) d (omega arith)

all_behind : {A : Type 0} (P : A → Type 0) (xs ys : List A) → All P (xs ++ ys) → All P ys
all_behind P [] ys all = all
all_behind P (x ∷ xs) ys all = all_behind P xs ys (all_rest P x (xs ++ ys) all)

pub all_more : {A : Type 0} (P : A → Type 0) (xs : List A) (y : A) → All P xs → P y → All P (xs ++ y ∷ [])
all_more P [] y all one zero d within = one
all_more P [] y all one (suc k) d within = absurd (omega arith)
all_more P (x ∷ xs) y all one zero d within = all zero d (omega arith)
all_more P (x ∷ xs) y all one (suc k) d within = all_more P xs y (all_rest P x xs all) one k d (omega arith)

home_in : (cs : List Cell) (j : ℕ) → IsHome cs j → j < length cs
home_in [] j home = absurd (true≢false (sym home))
home_in (c ∷ cs) zero home = omega arith
home_in (c ∷ cs) (suc j) home = omega (arith, home_in cs j home)

home_set : (cs : List Cell) (k n j : ℕ) → IsHome cs j → IsHome (set cs k (n, true)) j
home_set [] k n j home = absurd (true≢false (sym home))
home_set (c ∷ cs) zero n zero home = refl
home_set (c ∷ cs) zero n (suc j) home = home
home_set (c ∷ cs) (suc k) n zero home = home
home_set (c ∷ cs) (suc k) n (suc j) home = home_set cs k n j home

home_at : (cs : List Cell) (k n : ℕ) → k < length cs → IsHome (set cs k (n, true)) k
home_at [] k n within = absurd (omega arith)
home_at (c ∷ cs) zero n within = refl
home_at (c ∷ cs) (suc k) n within = home_at cs k n (omega arith)

home_more : (cs more : List Cell) (j : ℕ) → IsHome cs j → IsHome (cs ++ more) j
home_more [] more j home = absurd (true≢false (sym home))
home_more (c ∷ cs) more zero home = home
home_more (c ∷ cs) more (suc j) home = home_more cs more j home

in_set : (cs : List Cell) (k n j : ℕ) → j < length cs → j < length (set cs k (n, true))
in_set [] k n j within = absurd (omega arith)
in_set (c ∷ cs) zero n j within = within
in_set (c ∷ cs) (suc k) n zero within = omega arith
in_set (c ∷ cs) (suc k) n (suc j) within = omega (arith, in_set cs k n j (omega arith))

-- whatever the history is, one more pen is given
pub gives_pen_moves : (v : List Entry) (e : Entry) → Moves AreGiven shown moved 0 (v, (no_nib, None)) (λ n. either (n == 0) 0 n) (GivesPen (step 0 0 0 e) (v, (no_nib, None)))
gives_pen_moves v e cs log kept pre away =
    let n : ℕ = either ((cell cs 0).0 == 0) 0 (cell cs 0).0 in
    let all : List Cell = set cs 0 (n, true) ++ (0, false) ∷ [] in
    let keep : (j : ℕ) → IsHome cs j → IsHome all j = λ j home. home_more (set cs 0 (n, true)) ((0, false) ∷ []) j (home_set cs 0 n j home) in
    (home_in cs 0 kept.0, kept.0, (adds, [], None, tt, (keep 0 kept.0, subst (λ (l : List Entry). All (λ entry. IsHome all entry.given) l) (sym (append-nil log)) (λ k d within. keep (get_or log k d).given (kept.1 k d within))), inl (refl, refl), refl))

-- whatever the history is, the piece is added for the pen, which had added none
pub adds_moves : (v : List Entry) (p : Nib) (e : Entry) → p.right ≡ may_write → Moves AreGiven shown moved 0 (v, (p, None)) (λ n. either (n == 0) 0 n) (AddsPiece (step 0 0 0 e) (v, (p, None)))
adds_moves v p e right cs log kept pre away =
    let n : ℕ = either ((cell cs 0).0 == 0) 0 (cell cs 0).0 in
    let first : List Cell = set cs 0 (n, true) in
    let all : List Cell = set first p.key (p.value, true) in
    let entry : Entry = record { given = p.key; next = e.next; piece = e.piece } in
    let keep : (j : ℕ) → IsHome cs j → IsHome all j = λ j home. home_set first p.key p.value j (home_set cs 0 n j home) in
    let one : IsHome all p.key = home_at first p.key p.value (in_set cs 0 n p.key (away right).0) in
    let kept' : All (λ (x : Entry). IsHome all x.given) log = λ k d within. keep (get_or log k d).given (kept.1 k d within) in
    let behind : All (λ (x : Entry). IsHome cs x.given) pre.0 = all_behind (λ (x : Entry). IsHome cs x.given) v pre.0 (subst (λ (l : List Entry). All (λ x. IsHome cs x.given) l) (sym pre.1) kept.1) in (
      home_in cs 0 kept.0,
      kept.0,
      (
        gives,
        entry ∷ [],
        None,
        right,
        (keep 0 kept.0, all_more (λ (x : Entry). IsHome all x.given) log entry kept' one),
        inl (refl, refl),
        (
          pre.0,
          ap (λ l. l ++ entry ∷ []) (sym pre.1),
          λ k d within same. true≢false (sym (behind k d within) ∙ ap (λ j. (cell cs j).1) same ∙ (away right).1),
        ),
      ),
    )

-- behind an empty piece there is none
abbrev pub EndsOnce : List (List Report) → Type 0
EndsOnce [] = Unit {0}
EndsOnce (piece ∷ pieces) = ((0 < length piece) ⊎ (pieces ≡ [])) × EndsOnce pieces

ends_at : (key : ℕ) (e : Entry) (log : List Entry) → ((k : ℕ) → EndsOnce (pieces_from k log))
    → (b : Bool) → (e.given == key) ≡ b → (c : Bool) → (length e.piece == 0) ≡ c → EndsOnce (pieces_from key (e ∷ log))
ends_at key e log rest true mine true none = rw (mine, none) (inr refl, tt)
ends_at key e log rest true mine false some =
    let long : 0 < length e.piece = grind (arith, nat_tests) in rw (mine, some) (inl long, rest e.next)
ends_at key e log rest false other c any = rw other (rest key)

pub ends_once : (key : ℕ) (log : List Entry) → EndsOnce (pieces_from key log)
ends_once key [] = tt
ends_once key (e ∷ log) = ends_at key e log (λ k. ends_once k log) (e.given == key) refl (length e.piece == 0) refl

-- more entries are at most more pieces
abbrev pub Grow : ℕ → List Entry → List Entry → Type 0
Grow key seen more = (rest : List (List Report)) × (pieces_from key (seen ++ more) ≡ pieces_from key seen ++ rest)

grow_at : (key : ℕ) (e : Entry) (seen more : List Entry) → ((k : ℕ) → Grow k seen more)
    → (b : Bool) → (e.given == key) ≡ b → (c : Bool) → (length e.piece == 0) ≡ c → Grow key (e ∷ seen) more
grow_at key e seen more rest true mine true none = ([], rw (mine, none) refl)
grow_at key e seen more rest true mine false some = ((rest e.next).0, rw (mine, some) (ap (λ l. e.piece ∷ l) (rest e.next).1))
grow_at key e seen more rest false other c any = ((rest key).0, rw other (rest key).1)

pub grown : (key : ℕ) (seen more : List Entry) → Grow key seen more
grown key [] more = (pieces_from key more, refl)
grown key (e ∷ seen) more = grow_at key e seen more (λ k. grown k seen more) (e.given == key) refl (length e.piece == 0) refl

pub prefix_pieces : (key : ℕ) (seen both : List Entry) → IsPrefix seen both → IsPrefix (pieces_from key seen) (pieces_from key both)
prefix_pieces key seen both p = let more = grown key seen p.0 in (more.0, sym more.1 ∙ ap (pieces_from key) p.1)

-- the entry of the next pen is the next piece, and names the pen after it
abbrev pub IsAdded : ℕ → List Entry → List Entry → Entry → Type 0
IsAdded key seen since e =
    (pieces_from key (seen ++ since ++ e ∷ []) ≡ pieces_from key seen ++ e.piece ∷ []) × (key_after key (seen ++ since ++ e ∷ []) ≡ e.next)

last_at : (key : ℕ) (e : Entry) → (e.given == key) ≡ true → (c : Bool) → (length e.piece == 0) ≡ c → IsAdded key [] [] e
last_at key e mine true none = rw (mine, none) (refl, refl)
last_at key e mine false some = rw (mine, some) (refl, refl)

added_first : (key : ℕ) (since : List Entry) (e : Entry) → e.given ≡ key → All (λ entry. entry.given ≢ key) since → IsAdded key [] since e
added_first key [] e mine others = last_at key e (eq-eqb e.given key mine) (length e.piece == 0) refl
added_first key (x ∷ since) e mine others =
    let other : (x.given == key) ≡ false = ne_eqb x.given key (others 0 x (omega arith)) in
    rw other (added_first key since e mine (all_rest (λ (entry : Entry). entry.given ≢ key) x since others))

added_at : (key : ℕ) (x : Entry) (seen since : List Entry) (e : Entry) → ((k : ℕ) → AreFilled (pieces_from k seen) → key_after k seen ≡ e.given → IsAdded k seen since e)
    → (b : Bool) → (x.given == key) ≡ b → (c : Bool) → (length x.piece == 0) ≡ c → AreFilled (pieces_from key (x ∷ seen)) → key_after key (x ∷ seen) ≡ e.given → IsAdded key (x ∷ seen) since e
added_at key x seen since e rest true mine true none filled turn =
    let front : pieces_from key (x ∷ seen) ≡ x.piece ∷ [] = rw (mine, none) refl in
    let long : 0 < length x.piece = subst AreFilled front filled 0 x.piece (omega arith) in
    absurd (grind (arith, nat_tests))
added_at key x seen since e rest true mine false some filled turn =
    let front : pieces_from key (x ∷ seen) ≡ x.piece ∷ pieces_from x.next seen = rw (mine, some) refl in
    let keys : key_after key (x ∷ seen) ≡ key_after x.next seen = rw mine refl in
    let more = rest x.next (all_rest (λ (piece : List Report). 0 < length piece) x.piece (pieces_from x.next seen) (subst AreFilled front filled)) (sym keys ∙ turn) in
    (rw (mine, some) (ap (λ l. x.piece ∷ l) more.0), rw mine more.1)
added_at key x seen since e rest false other c any filled turn =
    let front : pieces_from key (x ∷ seen) ≡ pieces_from key seen = rw other refl in
    let keys : key_after key (x ∷ seen) ≡ key_after key seen = rw other refl in
    rw other (rest key (subst AreFilled front filled) (sym keys ∙ turn))

pub added : (key : ℕ) (seen since : List Entry) (e : Entry) → AreFilled (pieces_from key seen) → key_after key seen ≡ e.given → All (λ entry. entry.given ≢ e.given) since → IsAdded key seen since e
added key [] since e filled turn others = added_first key since e (sym turn) (subst (λ (k : ℕ). All (λ entry. entry.given ≢ k) since) (sym turn) others)
added key (x ∷ seen) since e filled turn others =
    added_at key x seen since e (λ k f t. added k seen since e f t others) (x.given == key) refl (length x.piece == 0) refl filled turn

-- behind the mark of the end there is nothing
pub whole_at_end : (before pieces : List (List Report)) → IsPrefix (before ++ [] ∷ []) pieces → EndsOnce pieces → before ++ [] ∷ [] ≡ pieces
whole_at_end [] [] p ends = absurd (cc (p.1))
whole_at_end [] (piece ∷ pieces) p (inl long, ends) = absurd (omega (arith, long, let e : [] ≡ piece = cc (p.1) in ap (λ (x : List Report). length x) e))
whole_at_end [] (piece ∷ pieces) p (inr none, ends) = cc (p.1, none)
whole_at_end (x ∷ before) [] p ends = absurd (cc (p.1))
whole_at_end (x ∷ before) (piece ∷ pieces) p ends =
    let rest = whole_at_end before pieces (p.0, cc (p.1)) ends.1 in cc (p.1, rest)

-- what was seen of a log that has ended is a beginning of it
pub held : (ended seen both : List (List Report)) → HasEnded ended → IsPrefix ended both → IsPrefix seen both → EndsOnce both → IsPrefix seen ended
held ended seen both end all some ends =
    let begins : IsPrefix (end.0 ++ [] ∷ []) both = subst (λ (l : List (List Report)). IsPrefix l both) end.1 all in
    subst (IsPrefix seen) (sym (end.1 ∙ whole_at_end end.0 both begins ends)) some

pub held_reports : (n : ℕ) (ended seen both : List (List Report)) → HasEnded ended → IsPrefix ended both → IsPrefix seen both → EndsOnce both → IsPrefix (take n (log_of seen)) (log_of ended)
held_reports n ended seen both end all some ends =
    prefix_trans (take n (log_of seen)) (log_of seen) (log_of ended) (prefix_take n (log_of seen)) (prefix_flat seen ended (held ended seen both end all some ends))

-- a piece more has its reports more
pub log_more : (pieces : List (List Report)) (piece : List Report) → log_of (pieces ++ piece ∷ []) ≡ log_of pieces ++ piece
log_more pieces piece = flat_map-append (λ (p : List Report). p) pieces (piece ∷ []) ∙ ap (λ l. log_of pieces ++ l) (append-nil piece)

-- the mark of the end has no reports
pub marked : (pieces : List (List Report)) → log_of (pieces ++ [] ∷ []) ≡ log_of pieces
marked pieces = log_more pieces [] ∙ append-nil (log_of pieces)

-- what the step of the next pen comes to
pub grown_by : (key : ℕ) (seen since reached : List Entry) (given next : ℕ) (piece : List Report) → AreFilled (pieces_from key seen) → given ≡ key_after key seen
    → reached ≡ seen ++ since ++ record { given = given; next = next; piece = piece } ∷ [] → All (λ entry. entry.given ≢ given) since
    → (pieces_from key reached ≡ pieces_from key seen ++ piece ∷ []) × (key_after key reached ≡ next)
grown_by key seen since reached given next piece filled turn is others =
    let entry : Entry = record { given = given; next = next; piece = piece } in
    let all = added key seen since entry filled (sym turn) others in
    subst (λ (l : List Entry). (pieces_from key l ≡ pieces_from key seen ++ piece ∷ []) × (key_after key l ≡ next)) (sym is) all
