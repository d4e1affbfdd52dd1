-- What each world keeps.
use Rattle.std.proofs.Common.{◌≡◌, ℕ, ◌<◌, List, [], ◌∷◌, ◌++◌, Vec, length, get_or, sym, ◌∙◌, ap, subst, arith}
use Rattle.std.specs.List.{All}
use Rattle.std.specs.declared.alloc.Global.{Global}
use Rattle.std.proofs.lemmas.List.{length-map}
use Rattle.std.proofs.lemmas.List.Elements.{All-same, All-push, All-get_or}
use Rattle.bwe_specs.specs.Lists.{lists_of}
use Rattle.enforcer_core.specs.World.{Limits, Down, limits_in, IsFor, IsDown}

-- a row of numbers in range
pub row_fits : (count : ℕ) (rows : List (Vec ℕ Global)) (region : ℕ) (row : List ℕ) → row ≡ get_or (lists_of rows) region [] → region < length rows → All (λ tasks. All (λ task. task < count) tasks) (lists_of rows)
    → All (λ task. task < count) row
row_fits count rows region row is inside all =
    subst (λ tasks. All (λ task. task < count) tasks) (sym is)
    (All-get_or (λ tasks. All (λ task. task < count) tasks) (lists_of rows) region [] (omega (arith, inside, length-map rows (λ (row : Vec ℕ Global). row.items))) all)

-- the limits of a table are for the tasks that they were made for
pub limits_for : {T : Type 0} (covers : T → ℕ) (limit_at : T → ℕ → ℕ) (table : T) (tasks : List ℕ) (limits : Limits) → limits ≡ limits_in covers limit_at table tasks → IsFor tasks limits
limits_for covers limit_at table tasks limits is = ap (λ (limits : Limits). length limits.limits) is ∙ length-map tasks (λ task. limit_at table task)

-- one message more
pub one_down_more : (tasks : List (List ℕ)) (old new : List Down) (down : Down) → new ≡ old ++ down ∷ [] → IsDown tasks down → All (IsDown tasks) old → All (IsDown tasks) new
one_down_more tasks old new down is fits all = All-same (IsDown tasks) new (old ++ down ∷ []) is (All-push (IsDown tasks) old down all fits)
