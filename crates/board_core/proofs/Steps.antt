-- What one step of a run keeps.
use Rattle.std.proofs.Common.{◌≡◌, ℕ, ◌+◌, ◌<◌, ◌≤◌, Bool, true, false, cond, eqb, List, [], ◌++◌, length, get_or, set, take, Ok, Err, Some, None, Result, refl, sym, ◌∙◌, ap, subst, arith, le_refl, inl, inr}
use Rattle.std.specs.Option.{IfSome}
use Rattle.std.proofs.lemmas.Bool.{ltb-false, eqb-true, cases_eq}
use Rattle.std.proofs.lemmas.List.{append-nil, length-append, length-set, get_or-set_same, get_or-set_other}
use Rattle.std.proofs.lemmas.List.Elements.{All-set, All-weaker, All-get_or}
use Rattle.bwe_specs.specs.declared.report.Report.{Report}
use Rattle.bwe_specs.specs.declared.limits.TheConstants.{MAX_REPORTS}
use Rattle.board_core.specs.declared.event.CoreEvent.{CoreEvent}
use Rattle.board_core.specs.declared.event.CoreEvent.TheVariants as event
use Rattle.board_core.specs.declared.event.CoreAnswer.{CoreAnswer}
use Rattle.board_core.specs.declared.event.CoreAnswer.TheVariants.{Placed, Posted, Told, Seen}
use Rattle.board_core.specs.declared.event.CoreError.{CoreError}
use Rattle.board_core.specs.declared.event.CoreError.TheVariants.{Full, OutOfMemory}
use Rattle.board_core.specs.CoreRun.{State, is_overfull, prefix_to_post, told_floor, Steps, IsMeant}
use Rattle.board_core.specs.Core.{IsInOrder}
use Rattle.board_core.specs.Laws.{prefix_in, placed_in, IsOfLog}

Answer : Type 0
Answer = Result CoreAnswer CoreError

ok_same : {a b : CoreAnswer} → let left : Result CoreAnswer CoreError = Ok a in left ≡ Ok b → a ≡ b
ok_same e = cc (e)

-- the log grows by what was placed
pub grown : (total : List Report → ℕ) (old : State) (event : CoreEvent) (answer : Result CoreAnswer CoreError) (new : State) → Steps total old event answer new
    → new.log ≡ old.log ++ placed_in event answer
grown total old (event.Report reporter piece) (Ok answer) new step = go (is_overfull old piece) step.0 step.1 where
  placed : (b : CoreAnswer) → Placed (length old.log) ≡ b → old.log ++ piece ≡ old.log ++ placed_in (event.Report reporter piece) (Ok b)
  placed b e = ap (λ (b : CoreAnswer). old.log ++ placed_in (event.Report reporter piece) (Ok b)) e

  go : (over : Bool) → cond over (Err (Full (length old.log))) (Ok (Placed (length old.log))) ≡ Ok answer → new ≡ cond over old (record old { log = old.log ++ piece })
      → new.log ≡ old.log ++ placed_in (event.Report reporter piece) (Ok answer)
  go true e n = absurd (cc (e))
  go false e n = ap (λ (s : State). s.log) n ∙ placed answer (cc (e))
grown total old (event.Report reporter piece) (Err (Full held)) new step = go (is_overfull old piece) step.0 step.1 where
  go : (over : Bool) → cond over (Err (Full (length old.log))) (Ok (Placed (length old.log))) ≡ Err (Full held) → new ≡ cond over old (record old { log = old.log ++ piece }) → new.log ≡ old.log ++ []
  go true e n = ap (λ (s : State). s.log) n ∙ sym (append-nil old.log)
  go false e n = absurd (cc (e))
grown total old (event.Report reporter piece) (Err OutOfMemory) new step = ap (λ (s : State). s.log) step.1 ∙ sym (append-nil old.log)
grown total old (event.Post upto) (Ok answer) new step = ap (λ (s : State). s.log) step.1 ∙ sym (append-nil old.log)
grown total old (event.Post upto) (Err (Full held)) new step = ap (λ (s : State). s.log) step.1 ∙ sym (append-nil old.log)
grown total old (event.Post upto) (Err OutOfMemory) new step = ap (λ (s : State). s.log) step.2 ∙ sym (append-nil old.log)
grown total old (event.Tell reader prefix) (Ok answer) new step = ap (λ (s : State). s.log) step.1 ∙ sym (append-nil old.log)
grown total old (event.Tell reader prefix) (Err (Full held)) new step = ap (λ (s : State). s.log) step.1 ∙ sym (append-nil old.log)
grown total old (event.Tell reader prefix) (Err OutOfMemory) new step = absurd step
grown total old (event.Read reader) (Ok answer) new step = ap (λ (s : State). s.log) step.1 ∙ sym (append-nil old.log)
grown total old (event.Read reader) (Err (Full held)) new step = ap (λ (s : State). s.log) step.1 ∙ sym (append-nil old.log)
grown total old (event.Read reader) (Err OutOfMemory) new step = absurd step

-- the numbers stay in order
pub record Keeps (old new : State) : Type 0 where
  pub order : IsInOrder new
  pub readers : length new.floors ≡ length old.floors
  pub rising : (reader : ℕ) → reader < length old.floors → get_or old.floors reader 0 ≤ get_or new.floors reader 0

keeps_itself : (state : State) → IsInOrder state → Keeps state state
keeps_itself state order = record { order = order; readers = refl; rising = λ reader inside. le_refl (get_or state.floors reader 0) }

keeps_floor : (state : State) (reader floor : ℕ) → reader < length state.floors → IsInOrder state → get_or state.floors reader 0 ≤ floor → floor ≤ state.posted
    → Keeps state (record state { floors = set state.floors reader floor })
keeps_floor state reader floor inside order raised posted = record {
  order = record {
    floors = All-set (λ floor. floor ≤ state.posted) state.floors reader floor posted order.floors;
    posted = order.posted;
    taken = order.taken;
    room = order.room;
  };
  readers = length-set state.floors reader floor;
  rising = λ other within.
      elim (cases_eq other reader) [
        | inl same ↦
            subst (λ (other : ℕ). get_or state.floors other 0 ≤ get_or (set state.floors reader floor) other 0) (sym same)
            (subst (λ (n : ℕ). get_or state.floors reader 0 ≤ n) (sym (get_or-set_same state.floors reader floor 0 inside)) raised)
        | inr differs ↦
            subst (λ (n : ℕ). get_or state.floors other 0 ≤ n) (sym (get_or-set_other state.floors reader other floor 0 differs)) (le_refl (get_or state.floors other 0))
      ];
}

keeps_taken : (state : State) (posted taken : ℕ) → IsInOrder state → state.posted ≤ posted → posted ≤ taken → taken ≤ length state.log → Keeps state (record state { posted = posted; taken = taken })
keeps_taken state posted taken order raised within room = record {
  order = record {
    floors = All-weaker (λ floor. floor ≤ state.posted) (λ floor. floor ≤ posted) (λ floor le. omega arith) state.floors order.floors;
    posted = within;
    taken = room;
    room = order.room;
  };
  readers = refl;
  rising = λ reader inside. le_refl (get_or state.floors reader 0);
}

keeps_log : (state : State) (piece : List Report) → IsInOrder state → length state.log + length piece ≤ MAX_REPORTS → Keeps state (record state { log = state.log ++ piece })
keeps_log state piece order room = record {
  order = record { floors = order.floors; posted = order.posted; taken = omega (arith, order.taken, length-append state.log piece); room = omega (arith, room, length-append state.log piece) };
  readers = refl;
  rising = λ reader inside. le_refl (get_or state.floors reader 0);
}

keeps_report : (old new : State) (piece : List Report) → IsInOrder old → (over : Bool) → is_overfull old piece ≡ over → new ≡ cond over old (record old { log = old.log ++ piece }) → Keeps old new
keeps_report old new piece order true is n = subst (Keeps old) (sym n) (keeps_itself old order)
keeps_report old new piece order false is n = subst (Keeps old) (sym n) (keeps_log old piece order (ltb-false MAX_REPORTS (length old.log + length piece) is))

pub keeps : (total : List Report → ℕ) (reporters : ℕ) (fit : Report → Type 0) (old : State) (event : CoreEvent) (answer : Result CoreAnswer CoreError) (new : State)
    → IsMeant reporters (length old.floors) fit event → IsInOrder old → Steps total old event answer new → Keeps old new
keeps total reporters fit old (event.Report reporter piece) (Ok answer) new meant order step = keeps_report old new piece order (is_overfull old piece) refl step.1
keeps total reporters fit old (event.Report reporter piece) (Err (Full held)) new meant order step = keeps_report old new piece order (is_overfull old piece) refl step.1
keeps total reporters fit old (event.Report reporter piece) (Err OutOfMemory) new meant order step = subst (Keeps old) (sym step.1) (keeps_itself old order)
keeps total reporters fit old (event.Post upto) (Ok answer) new meant order step =
    let n = prefix_to_post old upto in
    subst (Keeps old) (sym step.1) (keeps_taken old n n order (omega (arith, order.posted, order.taken)) (le_refl n) (omega arith))
keeps total reporters fit old (event.Post upto) (Err (Full held)) new meant order step = absurd (cc (step.0))
keeps total reporters fit old (event.Post upto) (Err OutOfMemory) new meant order step =
    subst (Keeps old) (sym step.2) (keeps_taken old old.posted new.taken order (le_refl old.posted) (omega (arith, order.posted, step.0)) (omega (arith, step.1)))
keeps total reporters fit old (event.Tell reader prefix) (Ok answer) new meant order step =
    let floor = told_floor old reader prefix in
    let posted : get_or old.floors reader 0 ≤ old.posted = All-get_or (λ floor. floor ≤ old.posted) old.floors reader 0 meant order.floors in
    subst (Keeps old) (sym step.1) (keeps_floor old reader floor meant order (omega arith) (omega arith))
keeps total reporters fit old (event.Tell reader prefix) (Err (Full held)) new meant order step = absurd (cc (step.0))
keeps total reporters fit old (event.Tell reader prefix) (Err OutOfMemory) new meant order step = absurd step
keeps total reporters fit old (event.Read reader) (Ok answer) new meant order step =
    subst (Keeps old) (sym step.1) (keeps_floor old reader old.posted meant order (All-get_or (λ floor. floor ≤ old.posted) old.floors reader 0 meant order.floors) (le_refl old.posted))
keeps total reporters fit old (event.Read reader) (Err (Full held)) new meant order step = absurd (cc (step.0))
keeps total reporters fit old (event.Read reader) (Err OutOfMemory) new meant order step = absurd step

-- a reader is answered its new floor
answered : (old : State) (reader reader' floor : ℕ) → reader' < length old.floors → IfSome (cond (eqb reader' reader) (Some floor) None) (λ prefix. prefix ≡ get_or (set old.floors reader' floor) reader 0)
answered old reader reader' floor inside = go (eqb reader' reader) refl where
  go : (same : Bool) → eqb reader' reader ≡ same → IfSome (cond same (Some floor) None) (λ prefix. prefix ≡ get_or (set old.floors reader' floor) reader 0)
  go true is = subst (λ (reader : ℕ). floor ≡ get_or (set old.floors reader' floor) reader 0) (eqb-true reader' reader is) (sym (get_or-set_same old.floors reader' floor 0 inside))
  go false is = tt

pub told : (total : List Report → ℕ) (reporters : ℕ) (fit : Report → Type 0) (old : State) (event : CoreEvent) (answer : Result CoreAnswer CoreError) (new : State)
    → IsMeant reporters (length old.floors) fit event → Steps total old event answer new → (reader : ℕ) → IfSome (prefix_in reader event answer) (λ prefix. prefix ≡ get_or new.floors reader 0)
told total reporters fit old (event.Report reporter piece) answer new meant step reader = tt
told total reporters fit old (event.Post upto) answer new meant step reader = tt
told total reporters fit old (event.Tell reader' prefix) (Ok answer) new meant step reader =
    let floor = told_floor old reader' prefix in
    let is : Told floor ≡ answer = cc (step.0) in
    subst (λ (new : State). IfSome (prefix_in reader (event.Tell reader' prefix) (Ok answer)) (λ prefix. prefix ≡ get_or new.floors reader 0)) (sym step.1)
    (subst (λ (answer : CoreAnswer). IfSome (prefix_in reader (event.Tell reader' prefix) (Ok answer)) (λ prefix. prefix ≡ get_or (set old.floors reader' floor) reader 0)) is
    (answered old reader reader' floor meant))
told total reporters fit old (event.Tell reader' prefix) (Err error) new meant step reader = tt
told total reporters fit old (event.Read reader') (Ok answer) new meant step reader =
    let is : Seen old.posted (total (take old.posted old.log)) ≡ answer = cc (step.0) in
    subst (λ (new : State). IfSome (prefix_in reader (event.Read reader') (Ok answer)) (λ prefix. prefix ≡ get_or new.floors reader 0)) (sym step.1)
    (subst (λ (answer : CoreAnswer). IfSome (prefix_in reader (event.Read reader') (Ok answer)) (λ prefix. prefix ≡ get_or (set old.floors reader' old.posted) reader 0)) is
    (answered old reader reader' old.posted meant))
told total reporters fit old (event.Read reader') (Err error) new meant step reader = tt

-- what is seen is of the log
pub seen : (total : List Report → ℕ) (old : State) (event : CoreEvent) (answer : Result CoreAnswer CoreError) (new : State) → IsInOrder old → Steps total old event answer new → IsOfLog total old.log answer
seen total old (event.Report reporter piece) (Ok answer) new order step = go (is_overfull old piece) step.0 where
  go : (over : Bool) → cond over (Err (Full (length old.log))) (Ok (Placed (length old.log))) ≡ Ok answer → IsOfLog total old.log (Ok answer)
  go true e = absurd (cc (e))
  go false e = let is : Placed (length old.log) ≡ answer = cc (e) in subst (λ (answer : CoreAnswer). IsOfLog total old.log (Ok answer)) is tt
seen total old (event.Post upto) (Ok answer) new order step =
    let is : Posted (prefix_to_post old upto) ≡ answer = cc (step.0) in subst (λ (answer : CoreAnswer). IsOfLog total old.log (Ok answer)) is tt
seen total old (event.Tell reader prefix) (Ok answer) new order step =
    let is : Told (told_floor old reader prefix) ≡ answer = cc (step.0) in subst (λ (answer : CoreAnswer). IsOfLog total old.log (Ok answer)) is tt
seen total old (event.Read reader) (Ok answer) new order step =
    let is : Seen old.posted (total (take old.posted old.log)) ≡ answer = cc (step.0) in
    subst (λ (answer : CoreAnswer). IsOfLog total old.log (Ok answer)) is (omega (arith, order.posted, order.taken), refl)
seen total old event (Err error) new order step = tt
