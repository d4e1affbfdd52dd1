-- Events, read one by one.
use Rattle.std.proofs.Common.{◌≡◌, ℕ, ◌≤◌, Bool, List, [], ◌∷◌, ◌++◌, length, take, sym, subst, append_assoc}
use Rattle.std.specs.List.{count_by}
use Rattle.std.proofs.lemmas.List.{append-nil}
use Rattle.std.proofs.lemmas.List.Sums.{count_by-le-length}
use Rattle.enforce_run.specs.declared.event.EventLine.{EventLine}
use Rattle.enforce_run.specs.EventLines.{AreThere, IsThere}

-- a count of a part fits what the whole does
pub count_fits : (p : EventLine → Bool) (events : List EventLine) (n : ℕ) → count_by p (take n events) ≤ length (take n events)
count_fits p events n = count_by-le-length p (take n events)

-- ---- what the events name is there

pub there_after : (regions : ℕ) (before events : List EventLine) (event : EventLine) → AreThere regions before events → IsThere regions (before ++ events) event → AreThere regions before (events ++ event ∷ [])
there_after regions before [] event are is = (subst (λ (before : List EventLine). IsThere regions before event) (append-nil before) is, tt)
there_after regions before (first ∷ events) event are is =
    (are.0, there_after regions (before ++ first ∷ []) events event are.1 (subst (λ (before : List EventLine). IsThere regions before event) (sym (append_assoc before (first ∷ []) events)) is))

pub there_more : (regions : ℕ) (events new : List EventLine) (event : EventLine) → new ≡ events ++ event ∷ [] → AreThere regions [] events → IsThere regions events event → AreThere regions [] new
there_more regions events new event pushed are is = subst (AreThere regions []) (sym pushed) (there_after regions [] events event are is)
