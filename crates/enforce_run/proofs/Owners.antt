-- The tasks of reporters, one by one.
use Rattle.std.proofs.Common.{◌≡◌, ◌≢◌, ℕ, ◌+◌, ◌<◌, ◌≤◌, ◌^◌, ◌==◌, Bool, cond, List, [], ◌∷◌, ◌++◌, Vec, length, map, get_or, refl, sym, ◌∙◌, ap, subst, arith}
use Rattle.std.specs.List.{All, filter}
use Rattle.std.specs.declared.alloc.Global.{Global}
use Rattle.std.proofs.lemmas.Bool.{eq-eqb, ne_eqb}
use Rattle.std.proofs.lemmas.List.{append-nil, map-append, length-map}
use Rattle.std.proofs.lemmas.List.FromFn.{get_or-range_with_len, length-range_with_len}
use Rattle.std.proofs.lemmas.List.Sums.{length-filter, count_by-le-length}
use Rattle.std.proofs.lemmas.List.Elements.{All-map, All-filter, filter-append}
use Rattle.bwe_specs.specs.Reports.{numbers}
use Rattle.bwe_specs.specs.Lists.{lists_of}
use Rattle.enforce_run.specs.Playing.{owned_below, owned_by, regions_of}
use Rattle.table_text.proofs.Lines.{numbers-more}

pub no_task : (owners : List ℕ) (reporter : ℕ) → owned_below owners reporter 0 ≡ []
unfolding owned_below
no_task owners reporter = refl

task_more : (owners : List ℕ) (reporter task : ℕ) → owned_below owners reporter (task + 1) ≡ owned_below owners reporter task ++ cond (get_or owners task 0 == reporter) (task ∷ []) []
unfolding owned_below
task_more owners reporter task =
    ap (filter (λ task. get_or owners task 0 == reporter)) (sym (numbers-more task)) ∙ filter-append (λ task. get_or owners task 0 == reporter) (numbers task) (task ∷ [])

pub one_task_more : (owners : List ℕ) (reporter task : ℕ) → get_or owners task 0 ≡ reporter → owned_below owners reporter (task + 1) ≡ owned_below owners reporter task ++ task ∷ []
one_task_more owners reporter task is = task_more owners reporter task ∙ ap (λ (b : Bool). owned_below owners reporter task ++ cond b (task ∷ []) []) (eq-eqb (get_or owners task 0) reporter is)

pub no_task_more : (owners : List ℕ) (reporter task : ℕ) → get_or owners task 0 ≢ reporter → owned_below owners reporter (task + 1) ≡ owned_below owners reporter task
no_task_more owners reporter task differs =
    task_more owners reporter task ∙ ap (λ (b : Bool). owned_below owners reporter task ++ cond b (task ∷ []) []) (ne_eqb (get_or owners task 0) reporter differs) ∙ append-nil (owned_below owners reporter task)

-- one region more
pub one_region_more : (owners : List ℕ) (old new : List (Vec ℕ Global)) (row : Vec ℕ Global) (reporter : ℕ) → lists_of old ≡ regions_of reporter owners → new ≡ old ++ row ∷ [] → row.items ≡ owned_by owners reporter
    → lists_of new ≡ regions_of (reporter + 1) owners
one_region_more owners old new row reporter before pushed is =
    ap lists_of pushed ∙ map-append (λ (row : Vec ℕ Global). row.items) old (row ∷ []) ∙ ap (λ (rows : List (List ℕ)). rows ++ row.items ∷ []) before
    ∙ ap (λ (tasks : List ℕ). regions_of reporter owners ++ tasks ∷ []) is
    ∙ sym (map-append (λ reporter. owned_by owners reporter) (numbers reporter) (reporter ∷ [])) ∙ ap (map (λ reporter. owned_by owners reporter)) (numbers-more reporter)

-- ---- what tasks a region has

numbers_below : (n : ℕ) → All (λ task. task < n) (numbers n)
numbers_below n k d inside =
    let within : k < n = omega (arith, inside, length-range_with_len 0 n) in
    subst (λ task. task < n) (sym (get_or-range_with_len 0 n k d within)) (omega arith)

owned_fits : (owners : List ℕ) (reporter : ℕ) → All (λ task. task < length owners) (owned_by owners reporter)
unfolding owned_below
owned_fits owners reporter = All-filter (λ task. get_or owners task 0 == reporter) (λ task. task < length owners) (numbers (length owners)) (numbers_below (length owners))

owned_few : (owners : List ℕ) (reporter : ℕ) → length (owned_by owners reporter) ≤ length owners
unfolding owned_below
owned_few owners reporter =
    omega (
      arith,
      length-filter (λ task. get_or owners task 0 == reporter) (numbers (length owners)),
      count_by-le-length (λ task. get_or owners task 0 == reporter) (numbers (length owners)),
      length-range_with_len 0 (length owners),
    )

-- each is one of the tasks, and there are not more than tasks
pub regions_fit : (reporters : ℕ) (owners : List ℕ) (count : ℕ) (rows : List (List ℕ)) → rows ≡ regions_of reporters owners → length owners ≡ count → All (λ tasks. All (λ task. task < count) tasks) rows
regions_fit reporters owners count rows is counted =
    subst (λ rows. All (λ tasks. All (λ task. task < count) tasks) rows) (sym is)
    (subst (λ count. All (λ tasks. All (λ task. task < count) tasks) (regions_of reporters owners)) counted
    (All-map (λ tasks. All (λ task. task < length owners) tasks) (λ reporter. owned_by owners reporter) (numbers reporters)
    (λ k d inside. owned_fits owners (get_or (numbers reporters) k d))))

pub regions_few : (reporters : ℕ) (owners : List ℕ) (rows : List (List ℕ)) → rows ≡ regions_of reporters owners → length owners < 2 ^ 32 → All (λ tasks. length tasks < 2 ^ 32) rows
regions_few reporters owners rows is few =
    subst (λ rows. All (λ tasks. length tasks < 2 ^ 32) rows) (sym is)
    (All-map (λ tasks. length tasks < 2 ^ 32) (λ reporter. owned_by owners reporter) (numbers reporters)
    (λ k d inside. let short = owned_few owners (get_or (numbers reporters) k d) in omega (arith, few, short)))

pub regions_counted : (reporters : ℕ) (owners : List ℕ) (rows : List (List ℕ)) → rows ≡ regions_of reporters owners → length rows ≡ reporters
regions_counted reporters owners rows is = ap (λ (rows : List (List ℕ)). length rows) is ∙ length-map (numbers reporters) (λ reporter. owned_by owners reporter) ∙ length-range_with_len 0 reporters
