-- What a reading that ended well says of what was read.
use Rattle.std.proofs.Common.{◌≡◌, ℕ, suc, ◌+◌, Bool, true, false, List, [], ◌∷◌, length, Result, Ok, Err, refl, sym, ap, subst, ◌∙◌, arith}
use Rattle.std.specs.Prelude.{All, ⊤}
use Rattle.std.proofs.lemmas.List.Elements.{All-nil, All-cons, All-head, All-tail, All-same}
use Rattle.raw_document.specs.declared.doc_path.PathStep.{PathStep}
use Rattle.raw_document.specs.declared.doc_path.PathStep.TheVariants.{Index}
use Rattle.raw_document.specs.Reading.{◌>>=◌, under, check, each, check_each, fold_each}
use Rattle.doc_passes.specs.Limits.{sum_of}

pub bind_ok : {A B : Type 0} (r : Result A (List PathStep)) (f : A → Result B (List PathStep)) (y : B) → (r >>= f) ≡ Ok y → (x : A) × (r ≡ Ok x) × (f x ≡ Ok y)
bind_ok (Ok x) f y e = (x, refl, e)
bind_ok (Err path) f y e = absurd cc

pub under_ok : {A : Type 0} (step : PathStep) (r : Result A (List PathStep)) (x : A) → under step r ≡ Ok x → r ≡ Ok x
under_ok step (Ok y) x e = e
under_ok step (Err path) x e = absurd cc

pub ok_is : {A : Type 0} (x y : A) → ◌≡◌ {A = Result A (List PathStep)} (Ok x) (Ok y) → x ≡ y
ok_is x y e = cc

pub check_ok : (b : Bool) (u : ⊤) → check b ≡ Ok u → b ≡ true
check_ok true u e = refl
check_ok false u e = absurd cc

module _ {A B : Type 0} (read : A → Result B (List PathStep)) where
  abbrev First : ℕ → A → List A → List B → Type 0
  First place item items xs = (x : B) × (ys : List B) × (read item ≡ Ok x) × (each read (suc place) items ≡ Ok ys) × (xs ≡ x ∷ ys)

  each-cons : (place : ℕ) (item : A) (items : List A) (xs : List B) → each read place (item ∷ items) ≡ Ok xs → First place item items xs
  unfolding each
  each-cons place item items xs e =
      let first = bind_ok (under (Index place) (read item)) (λ x. each read (suc place) items >>= λ ys. Ok (x ∷ ys)) xs e in
      let rest = bind_ok (each read (suc place) items) (λ ys. Ok (first.0 ∷ ys)) xs first.2 in
      (first.0, rest.0, under_ok (Index place) (read item) first.0 first.1, rest.1, sym (ok_is (first.0 ∷ rest.0) xs rest.2))

  each-nil : (place : ℕ) (xs : List B) → each read place [] ≡ Ok xs → xs ≡ []
  unfolding each
  each-nil place xs e = sym (ok_is [] xs e)

  -- each item that was read has the property, where each item read from had another
  pub each_all : (Q : A → Type 0) (P : B → Type 0) → ((item : A) (x : B) → Q item → read item ≡ Ok x → P x) → (place : ℕ) (items : List A) (xs : List B) → All Q items → each read place items ≡ Ok xs → All P xs
  each_all Q P has place [] xs known e = All-same P xs [] (each-nil place xs e) (All-nil P)
  each_all Q P has place (item ∷ items) xs known e =
      let first = each-cons place item items xs e in
      All-same P xs (first.0 ∷ first.1) first.4 (All-cons P first.0 first.1 (has item first.0 (All-head Q item items known) first.2) (each_all Q P has (suc place) items first.1 (All-tail Q item items known) first.3))

  pub length-each : (place : ℕ) (items : List A) (xs : List B) → each read place items ≡ Ok xs → length xs ≡ length items
  length-each place [] xs e = ap length (each-nil place xs e)
  length-each place (item ∷ items) xs e = let first = each-cons place item items xs e in ap length first.4 ∙ ap suc (length-each (suc place) items first.1 first.3)

-- any items have the property of which nothing is asked
pub All-anything : {A : Type 0} (items : List A) → All (λ _. Unit {0}) items
All-anything items k d within = tt

-- each item has the property that its check shows
pub check_each_all : {A : Type 0} (check : A → Result ⊤ (List PathStep)) (P : A → Type 0) → ((item : A) (u : ⊤) → check item ≡ Ok u → P item) → (items : List A) (u : ⊤) → check_each check items ≡ Ok u → All P items
check_each_all {A = A} check P shows items u e = let done = bind_ok (each check 0 items) (λ _. Ok tt) u e in go 0 items done.0 done.1 where
  go : (place : ℕ) (items : List A) (us : List ⊤) → each check place items ≡ Ok us → All P items
  go place [] us e = All-nil P
  go place (item ∷ items) us e = let first = each-cons check place item items us e in All-cons P item items (shows item first.0 first.2) (go (suc place) items first.1 first.3)

module _ {S A : Type 0} (step : S → A → Result S (List PathStep)) where
  abbrev Next : ℕ → S → A → List A → S → Type 0
  Next place state item items end = (next : S) × (step state item ≡ Ok next) × (fold_each step (suc place) next items ≡ Ok end)

  fold-cons : (place : ℕ) (state : S) (item : A) (items : List A) (end : S) → fold_each step place state (item ∷ items) ≡ Ok end → Next place state item items end
  unfolding fold_each
  fold-cons place state item items end e =
      let first = bind_ok (under (Index place) (step state item)) (λ next. fold_each step (suc place) next items) end e in
      (first.0, under_ok (Index place) (step state item) first.0 first.1, first.2)

  fold-nil : (place : ℕ) (state end : S) → fold_each step place state [] ≡ Ok end → state ≡ end
  unfolding fold_each
  fold-nil place state end e = ok_is state end e

  -- what each step keeps is kept by all
  pub fold_keeps : (P : S → Type 0) → ((state next : S) (item : A) → P state → step state item ≡ Ok next → P next) → (place : ℕ) (state : S) (items : List A) (end : S) → P state → fold_each step place state items ≡ Ok end → P end
  fold_keeps P keeps place state [] end known e = subst P (fold-nil place state end e) known
  fold_keeps P keeps place state (item ∷ items) end known e =
      let first = fold-cons place state item items end e in
      fold_keeps P keeps (suc place) first.0 items end (keeps state first.0 item known first.1) first.2

  -- what grows at each item by a number grows by their sum
  pub fold_grows : (size : S → ℕ) (count : A → ℕ) → ((state next : S) (item : A) → step state item ≡ Ok next → size next ≡ size state + count item) → (place : ℕ) (state : S) (items : List A) (end : S) → fold_each step place state items ≡ Ok end → size end ≡ size state + sum_of count items
  unfolding sum_of
  fold_grows size count grows place state [] end e = let same : size state ≡ size end = ap size (fold-nil place state end e) in omega arith
  fold_grows size count grows place state (item ∷ items) end e =
      let first = fold-cons place state item items end e in
      let here : size first.0 ≡ size state + count item = grows state first.0 item first.1 in
      let later : size end ≡ size first.0 + sum_of count items = fold_grows size count grows (suc place) first.0 items end first.2 in
      omega arith

pub sum_of-one : {A : Type 0} (items : List A) → sum_of (λ _. 1) items ≡ length items
unfolding sum_of
sum_of-one [] = refl
sum_of-one (item ∷ items) = let rest : sum_of (λ _. 1) items ≡ length items = sum_of-one items in omega arith
