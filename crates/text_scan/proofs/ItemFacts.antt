-- Items, read line by line.
use Rattle.std.proofs.Common.{◌≡◌, ℕ, ◌==◌, Bool, true, false, List, [], ◌∷◌, ◌++◌, length, Option, Some, None, Result, Ok, Err, refl, sym, ap, ◌∙◌, subst, cond}
use Rattle.text_scan.specs.Items.{go_on, items_behind}

-- a line that is an item
pub goes_on : {A : Type 0} (item : List A → List ℕ → Option A) (before new : List A) (found : A) (line : List ℕ) (rest lines : List (List ℕ)) (left after : List ℕ) (all : Result (List A) ℕ)
    → all ≡ items_behind item before rest left → rest ≡ line ∷ lines → item before line ≡ Some found → new ≡ before ++ found ∷ [] → after ≡ left → all ≡ items_behind item new lines after
unfolding items_behind
goes_on item before new found line rest lines left after all so_far next is pushed same =
    so_far ∙ ap (λ (texts : List (List ℕ)). items_behind item before texts left) next
    ∙ ap (go_on before (λ items. items_behind item items lines left)) is
    ∙ ap (λ items. items_behind item items lines left) (sym pushed) ∙ ap (items_behind item new lines) (sym same)

-- a line that is no item
pub stops : {A : Type 0} (item : List A → List ℕ → Option A) (before : List A) (line : List ℕ) (rest lines : List (List ℕ)) (left : List ℕ) (all : Result (List A) ℕ) (count : ℕ)
    → all ≡ items_behind item before rest left → rest ≡ line ∷ lines → item before line ≡ None → count ≡ length before → all ≡ Err count
unfolding items_behind
stops item before line rest lines left all count so_far next is counted =
    so_far ∙ ap (λ (texts : List (List ℕ)). items_behind item before texts left) next
    ∙ ap (go_on before (λ items. items_behind item items lines left)) is ∙ ap Err (sym counted)

-- no line more
pub ends : {A : Type 0} (item : List A → List ℕ → Option A) (before : List A) (rest : List (List ℕ)) (left : List ℕ) (all : Result (List A) ℕ)
    → all ≡ items_behind item before rest left → rest ≡ [] → (length left == 0) ≡ true → all ≡ Ok before
unfolding items_behind
ends item before rest left all so_far none empty = so_far ∙ ap (λ (texts : List (List ℕ)). items_behind item before texts left) none ∙ rw empty refl

pub ends_open : {A : Type 0} (item : List A → List ℕ → Option A) (before : List A) (rest : List (List ℕ)) (left : List ℕ) (all : Result (List A) ℕ) (count : ℕ)
    → all ≡ items_behind item before rest left → rest ≡ [] → (length left == 0) ≡ false → count ≡ length before → all ≡ Err count
unfolding items_behind
ends_open item before rest left all count so_far none some counted =
    so_far ∙ ap (λ (texts : List (List ℕ)). items_behind item before texts left) none ∙ rw some (ap Err (sym counted))

-- ---- what each item keeps, all keep

pub items_keep : {A : Type 0} (item : List A → List ℕ → Option A) (P : List A → Type 0)
    → ((before : List A) (line : List ℕ) (found : A) → item before line ≡ Some found → P before → P (before ++ found ∷ []))
    → (before : List A) (lines : List (List ℕ)) (left : List ℕ) (all : List A) → P before → items_behind item before lines left ≡ Ok all → P all
unfolding items_behind
items_keep {A = A} item P more before [] left all kept e = go (length left == 0) e
  where
    go : (b : Bool) → cond {A = Result (List A) ℕ} b (Ok before) (Err (length before)) ≡ Ok all → P all
    go true is = subst P (let same : before ≡ all = cc in same) kept
    go false is = absurd (cc (is))
items_keep {A = A} item P more before (line ∷ lines) left all kept e = go (item before line) refl e (λ found. items_keep item P more (before ++ found ∷ []) lines left all)
  where
    go : (o : Option A) → item before line ≡ o → go_on before (λ items. items_behind item items lines left) o ≡ Ok all
        → ((found : A) → P (before ++ found ∷ []) → items_behind item (before ++ found ∷ []) lines left ≡ Ok all → P all) → P all
    go None is fault rest = absurd (cc (fault))
    go (Some found) is follows rest = rest found (more before line found is kept) follows
