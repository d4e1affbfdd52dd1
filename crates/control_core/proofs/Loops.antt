-- Steps of loops.
use Rattle.std.proofs.Common.{◌≡◌, ℕ, suc, ◌+◌, ◌<◌, false, cond, List, [], ◌∷◌, ◌++◌, Vec, length, map, take, get_or, replicate, sym, ◌∙◌, ap, arith, subst}
use Rattle.std.specs.List.{All}
use Rattle.std.specs.declared.alloc.Global.{Global}
use Rattle.std.proofs.lemmas.List.{replicate_more, map_push, take_more, length-map}
use Rattle.std.proofs.lemmas.List.Elements.{All-get_or}
use Rattle.std.proofs.lemmas.List.FromFn.{map-range_with_len_more}
use Rattle.bwe_specs.specs.Lists.{lists_of}
use Rattle.bwe_specs.specs.Reports.{numbers}
use Rattle.control_core.specs.World.{Slices, Rows, differs, slice_at, row_at, agree_below}

-- one more of a list by number
pub one_more : {X : Type 0} (f : ℕ → X) (old new : List X) (x : X) (n : ℕ) → old ≡ map f (numbers n) → new ≡ old ++ x ∷ [] → x ≡ f n → new ≡ map f (numbers (n + 1))
one_more f old new x n before is value =
    is ∙ ap (λ list. list ++ x ∷ []) before ∙ ap (λ y. map f (numbers n) ++ y ∷ []) value ∙ sym (map-range_with_len_more f 0 n n (omega arith))

-- one more of the same
pub one_same : {X : Type 0} (y : X) (old new : List X) (x : X) (n : ℕ) → old ≡ replicate n y → new ≡ old ++ x ∷ [] → x ≡ y → new ≡ replicate (n + 1) y
one_same y old new x n before is value =
    is ∙ ap (λ list. list ++ x ∷ []) before ∙ ap (λ z. replicate n y ++ z ∷ []) value ∙ replicate_more n y

-- one more row
pub row_more : (f : List ℕ → List ℕ) (tasks : List (Vec ℕ Global)) (old new : List (Vec ℕ Global)) (row : Vec ℕ Global) (list : List ℕ) (i : ℕ) → i < length tasks
    → lists_of old ≡ map f (take i (lists_of tasks)) → new ≡ old ++ row ∷ [] → list ≡ get_or (lists_of tasks) i [] → row.items ≡ f list
    → lists_of new ≡ map f (take (i + 1) (lists_of tasks))
row_more f tasks old new row list i inside before is at value =
    let within : i < length (lists_of tasks) = omega (arith, inside, length-map tasks (λ (row : Vec ℕ Global). row.items)) in
    ap lists_of is ∙ map_push (λ (row : Vec ℕ Global). row.items) old row ∙ ap (λ rows. rows ++ row.items ∷ []) before
    ∙ ap (λ one. map f (take i (lists_of tasks)) ++ one ∷ []) (value ∙ ap f at)
    ∙ sym (ap (map f) (take_more (lists_of tasks) i [] within) ∙ map_push f (take i (lists_of tasks)) (get_or (lists_of tasks) i []))

-- whether one more slice agrees
pub agree_more : (slices : Slices) (rows : Rows) (n : ℕ) → agree_below slices rows (n + 1) ≡ cond (differs (slice_at slices n) (row_at rows n)) false (agree_below slices rows n)
agree_more slices rows n = let next : suc n ≡ n + 1 = omega arith in ap (agree_below slices rows) (sym next)

-- the rows of an equal table, for the same tasks
pub rows_same : {T : Type 0} (limit_at : T → ℕ → ℕ) (table other : T) (rows tasks others : List (List ℕ)) → table ≡ other → tasks ≡ others → rows ≡ map (λ row. map (λ task. limit_at table task) row) tasks
    → rows ≡ map (λ row. map (λ task. limit_at other task) row) others
rows_same limit_at table other rows tasks others same lists is =
    is ∙ ap (λ it. map (λ row. map (λ task. limit_at it task) row) tasks) same ∙ ap (map (λ row. map (λ task. limit_at other task) row)) lists

-- a row of numbers in range
pub row_fits : (count : ℕ) (rows : List (Vec ℕ Global)) (i : ℕ) (row : List ℕ) → i < length rows → row ≡ get_or (lists_of rows) i [] → All (λ tasks. All (λ task. task < count) tasks) (lists_of rows)
    → All (λ task. task < count) row
row_fits count rows i row inside is all =
    subst (λ tasks. All (λ task. task < count) tasks) (sym is)
    (All-get_or (λ tasks. All (λ task. task < count) tasks) (lists_of rows) i [] (omega (arith, inside, length-map rows (λ (row : Vec ℕ Global). row.items))) all)
