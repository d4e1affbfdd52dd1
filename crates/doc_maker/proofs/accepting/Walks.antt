-- The tasks of the groups, one group after another: each task of the document is among them once.
use Rattle.std.proofs.Common.{inl, inr, ◌≡◌, ℕ, zero, suc, ◌+◌, ◌<◌, ◌≤◌, ◌%◌, ◌==◌, Bool, true, false, cond, List, [], ◌∷◌, length, get_or, refl, sym, ap, subst, ◌∙◌, arith}
use Rattle.std.specs.Prelude.{All, flat_map, filter, sum_by}
use Rattle.std.specs.List.{Contains, range_with_len}
use Rattle.std.proofs.lemmas.Bool.{eq-eqb, ne_eqb, cases_eq}
use Rattle.std.proofs.lemmas.List.Sums.{sum_by-cons}
use Rattle.std.proofs.lemmas.List.Concat.{length-flat_map}
use Rattle.std.proofs.lemmas.List.Elements.{All-nil, All-append, All-filter, All-from_get_or, Contains-append_left, Contains-append_right}
use Rattle.std.proofs.lemmas.List.FromFn.{length-range_with_len, get_or-range_with_len}
use Rattle.bwe_specs.specs.Reports.{numbers}
use Rattle.doc_maker.specs.Made.{Size, tasks_of}
use Rattle.doc_maker.specs.Accepting.{walked_tasks}

-- ---- lists that have an item

-- the numbers below a number are in their list
pub contains_number : (n number : ℕ) → number < n → Contains (numbers n) number
contains_number n number below = (number, omega (arith, length-range_with_len 0 n), get_or-range_with_len 0 n number number below ∙ omega arith)

contains_here : {A : Type 0} (x y : A) (xs : List A) → x ≡ y → Contains (x ∷ xs) y
contains_here x y xs same = (0, omega arith, same)

contains_later : {A : Type 0} (x y : A) (xs : List A) → Contains xs y → Contains (x ∷ xs) y
contains_later x y xs found = (suc found.0, omega (arith, found.1), found.2)

-- an item of a longer list is its first, or one of the rest
contains_cases : {A : Type 0} (P : Type 0) (x y : A) (xs : List A) → (x ≡ y → P) → (Contains xs y → P) → Contains (x ∷ xs) y → P
contains_cases {A = A} P x y xs here later found = go found.0 found.1 found.2 where
  go : (k : ℕ) → k < length (x ∷ xs) → get_or (x ∷ xs) k y ≡ y → P
  go zero within same = here same
  go (suc k) within same = later (k, omega arith, same)

contains_kept : {A : Type 0} (b : Bool) (x y : A) (xs : List A) → Contains xs y → Contains (cond b (x ∷ xs) xs) y
contains_kept true x y xs found = contains_later x y xs found
contains_kept false x y xs found = found

pub contains_filter : {A : Type 0} (test : A → Bool) (xs : List A) (y : A) → test y ≡ true → Contains xs y → Contains (filter test xs) y
contains_filter test [] y passes found = absurd (omega (arith, found.1))
contains_filter test (x ∷ xs) y passes found =
    contains_cases (Contains (filter test (x ∷ xs)) y) x y xs
    (λ same. subst (λ b. Contains (cond b (x ∷ filter test xs) (filter test xs)) y) (sym (ap test same ∙ passes)) (contains_here x y (filter test xs) same))
    (λ later. contains_kept (test x) x y (filter test xs) (contains_filter test xs y passes later)) found

contains_flat_map : {A B : Type 0} (f : A → List B) (xs : List A) (x : A) (y : B) → Contains xs x → Contains (f x) y → Contains (flat_map f xs) y
contains_flat_map f [] x y found inner = absurd (omega (arith, found.1))
contains_flat_map f (z ∷ zs) x y found inner = contains_cases (Contains (flat_map f (z ∷ zs)) y) z x zs
    (λ same. Contains-append_left (f z) (flat_map f zs) y (subst (λ w. Contains (f w) y) (sym same) inner))
    (λ later. Contains-append_right (f z) (flat_map f zs) y (contains_flat_map f zs x y later inner)) found

-- each task of the document is in the walk
pub contains_task : (size : Size) (task : ℕ) → 0 < size.groups → task < size.tasks → Contains (walked_tasks size) task
contains_task size task some below =
    contains_flat_map (tasks_of size) (numbers size.groups) (task % size.groups) task (contains_number size.groups (task % size.groups) (omega arith))
    (contains_filter (λ other. other % size.groups == task % size.groups) (numbers size.tasks) task (eq-eqb _ _ refl) (contains_number size.tasks task below))

-- ---- and nothing else is

pub numbers_below : (n : ℕ) → All (λ number. number < n) (numbers n)
numbers_below n = All-from_get_or (λ number. number < n) (numbers n) 0 (λ i within. omega (arith, length-range_with_len 0 n, get_or-range_with_len 0 n i 0 (omega (arith, length-range_with_len 0 n))))

All-flat_map : {A B : Type 0} (P : B → Type 0) (f : A → List B) → ((x : A) → All P (f x)) → (xs : List A) → All P (flat_map f xs)
All-flat_map P f each [] = All-nil P
All-flat_map P f each (x ∷ xs) = All-append P (f x) (flat_map f xs) (each x) (All-flat_map P f each xs)

pub tasks_below : (size : Size) (group : ℕ) → All (λ task. task < size.tasks) (tasks_of size group)
tasks_below size group = All-filter (λ task. task % size.groups == group) (λ task. task < size.tasks) (numbers size.tasks) (numbers_below size.tasks)

pub walked_below : (size : Size) → All (λ task. task < size.tasks) (walked_tasks size)
walked_below size = All-flat_map (λ task. task < size.tasks) (tasks_of size) (tasks_below size) (numbers size.groups)

-- ---- how many there are

-- one where the test passes
abbrev as_one : Bool → ℕ
as_one b = cond b 1 0

-- no number from one on is below it
none_of : (low n number : ℕ) → number < low → sum_by (λ other. as_one (number == other)) (range_with_len low n) ≡ 0
none_of low zero number below = refl
none_of low (suc n) number below =
    let here : as_one (number == low) ≡ 0 = ap as_one (ne_eqb number low (omega arith)) in
    let later : sum_by (λ other. as_one (number == other)) (range_with_len (low + 1) n) ≡ 0 = none_of (low + 1) n number (omega arith) in
    sum_by-cons (λ other. as_one (number == other)) low (range_with_len (low + 1) n) ∙ omega arith

-- among so many numbers from one on, one is this one
one_of : (low n number : ℕ) → low ≤ number → number < low + n → sum_by (λ other. as_one (number == other)) (range_with_len low n) ≡ 1
one_of low zero number above below = absurd (omega arith)
one_of low (suc n) number above below = sum_by-cons (λ other. as_one (number == other)) low (range_with_len (low + 1) n) ∙ (elim (cases_eq number low) as (λ _. as_one (number == low) + sum_by (λ other. as_one (number == other)) (range_with_len (low + 1) n) ≡ 1) [
  | inl same ↦
      let here : as_one (number == low) ≡ 1 = ap as_one (eq-eqb number low same) in
      let later : sum_by (λ other. as_one (number == other)) (range_with_len (low + 1) n) ≡ 0 = none_of (low + 1) n number (omega arith) in
      omega arith
  | inr different ↦
      let here : as_one (number == low) ≡ 0 = ap as_one (ne_eqb number low different) in
      let later : sum_by (λ other. as_one (number == other)) (range_with_len (low + 1) n) ≡ 1 = one_of (low + 1) n number (omega arith) (omega arith) in
      omega arith
])

sum_by-plus : {A : Type 0} (f g h : A → ℕ) → ((x : A) → h x ≡ f x + g x) → (xs : List A) → sum_by h xs ≡ sum_by f xs + sum_by g xs
sum_by-plus f g h splits [] = refl
sum_by-plus f g h splits (x ∷ xs) = let here : h x ≡ f x + g x = splits x in let later : sum_by h xs ≡ sum_by f xs + sum_by g xs = sum_by-plus f g h splits xs in omega (arith, sum_by-cons f x xs, sum_by-cons g x xs, sum_by-cons h x xs)

module _ (groups : ℕ) (some : 0 < groups) where
  abbrev is_of : ℕ → ℕ → Bool
  is_of group task = task % groups == group

  length-filter-cons : (task group : ℕ) (later : List ℕ) → length (filter (is_of group) (task ∷ later)) ≡ as_one (is_of group task) + length (filter (is_of group) later)
  length-filter-cons task group later = go (is_of group task) where
    go : (b : Bool) → length (cond b (task ∷ filter (is_of group) later) (filter (is_of group) later)) ≡ as_one b + length (filter (is_of group) later)
    go true = omega arith
    go false = omega arith

  -- the groups' tasks from a number on are together as many as those tasks
  count_from : (low n : ℕ) → sum_by (λ group. length (filter (is_of group) (range_with_len low n))) (numbers groups) ≡ n
  count_from low zero = none (numbers groups) where
    none : (gs : List ℕ) → sum_by (λ group. 0) gs ≡ 0
    none [] = refl
    none (g ∷ gs) = none gs
  count_from low (suc n) =
      let split : sum_by (λ group. length (filter (is_of group) (range_with_len low (suc n)))) (numbers groups) ≡ sum_by (λ group. as_one (low % groups == group)) (numbers groups) + sum_by (λ group. length (filter (is_of group) (range_with_len (low + 1) n))) (numbers groups)
      = sum_by-plus (λ group. as_one (low % groups == group)) (λ group. length (filter (is_of group) (range_with_len (low + 1) n))) (λ group. length (filter (is_of group) (range_with_len low (suc n)))) (λ group. length-filter-cons low group (range_with_len (low + 1) n)) (numbers groups) in
      let one : sum_by (λ group. as_one (low % groups == group)) (numbers groups) ≡ 1 = one_of 0 groups (low % groups) (omega arith) (omega arith) in
      let rest : sum_by (λ group. length (filter (is_of group) (range_with_len (low + 1) n))) (numbers groups) ≡ n = count_from (low + 1) n in
      omega arith

-- the walk has as many tasks as the document
pub length-walked : (size : Size) → 0 < size.groups → length (walked_tasks size) ≡ size.tasks
length-walked size some = length-flat_map (tasks_of size) (numbers size.groups) ∙ count_from size.groups some 0 size.tasks
