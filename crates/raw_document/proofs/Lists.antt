-- A list that was read item by item is what the definition reads.
use Rattle.std.proofs.Common.{◌≡◌, ℕ, suc, List, [], ◌∷◌, map, Option, Some, Result, Ok, Err, inl, inr, refl, sym, ap, subst, ◌∙◌}
use Rattle.std.specs.Prelude.{⊤}
use Rattle.std.specs.Global.{Vec}
use Rattle.serde_json.specs.Data.{Data, Items}
use Rattle.serde_json.specs.Find.{as_array}
use Rattle.serde_json.specs.View.{view, items_of, items_view}
use Rattle.serde_json.specs.declared.value.Value.{Value}
use Rattle.raw_document.specs.declared.doc_path.PathStep.{PathStep}
use Rattle.raw_document.specs.declared.doc_path.PathStep.TheVariants.{Index}
use Rattle.raw_document.specs.declared.doc_path.Fault.{Fault}
use Rattle.raw_document.specs.declared.doc_path.Fault.TheVariants.{OutOfMemory, At}
use Rattle.raw_document.specs.Reading.{◌>>=◌, under, or_fault, each, Fails, Gives, IsFaultUnder, IsUnder}
use Rattle.raw_document.specs.Shape.{list_items, list_of}
use Rattle.raw_document.proofs.Visits.{Runs, ReadsEach, ChecksEach}

module _ {V A T S : Type 0} (input_view : V → A) (output_view : T → S) (reader : A → Result S (List PathStep)) (Reads : V → Result T Fault → Type 0) (gives : (v : V) (r : Result T Fault) → Reads v r → Gives output_view r (reader (input_view v))) where
  -- what is read in turn, as the definition has it
  abbrev GivesEach : ℕ → List V → Result (List T) Fault → Type 0
  GivesEach i vs (Ok xs) = each reader i (map input_view vs) ≡ Ok (map output_view xs)
  GivesEach i vs (Err fault) = Fails fault (each reader i (map input_view vs))

  fails_here : (i : ℕ) (v : V) (vs : List V) (inner fault : Fault) → Fails inner (reader (input_view v)) → IsFaultUnder (Index i) inner fault → Fails fault (each reader i (map input_view (v ∷ vs)))
  unfolding each
  fails_here i v vs inner OutOfMemory fails under = tt
  fails_here i v vs OutOfMemory (At q) fails under = absurd under
  fails_here i v vs (At p) (At q) fails under = rw fails (ap Err (sym under))

  fails_later : (i : ℕ) (v : V) (vs : List V) (x : S) (fault : Fault) → reader (input_view v) ≡ Ok x → Fails fault (each reader (suc i) (map input_view vs)) → Fails fault (each reader i (map input_view (v ∷ vs)))
  unfolding each
  fails_later i v vs x OutOfMemory is fails = tt
  fails_later i v vs x (At q) is fails = rw (is, fails) refl

  one_more : (i : ℕ) (v : V) (vs : List V) (x : S) (xs : List S) → reader (input_view v) ≡ Ok x → each reader (suc i) (map input_view vs) ≡ Ok xs → each reader i (map input_view (v ∷ vs)) ≡ Ok (x ∷ xs)
  unfolding each
  one_more i v vs x xs is more = rw (is, more) refl

  runs_gives : (i : ℕ) (vs : List V) (r : Result (List T) Fault) → Runs Reads i vs r → GivesEach i vs r
  unfolding Runs each
  runs_gives i [] (Ok []) runs = refl
  runs_gives i [] (Ok (x ∷ xs)) runs = absurd runs
  runs_gives i [] (Err fault) runs = absurd runs
  runs_gives i (v ∷ vs) (Ok []) runs = absurd runs
  runs_gives i (v ∷ vs) (Ok (x ∷ xs)) runs = one_more i v vs (output_view x) (map output_view xs) (gives v (Ok x) runs.0) (runs_gives (suc i) vs (Ok xs) runs.1)
  runs_gives i (v ∷ vs) (Err fault) (inl h) = fails_here i v vs h.0 fault (gives v (Err h.0) h.1) h.2
  runs_gives i (v ∷ vs) (Err fault) (inr h) = fails_later i v vs (output_view h.0) fault (gives v (Ok h.0) h.1) (runs_gives (suc i) vs (Err fault) h.2)

  -- a list whose items were read by a function which reads an item as `reader` does
  pub each_gives : (vs : List V) (r : Result (Vec T) Fault) → ReadsEach Reads vs r → Gives (λ (v : Vec T). map output_view v.items) r (each reader 0 (map input_view vs))
  each_gives vs (Ok found) runs = runs_gives 0 vs (Ok found.items) runs
  each_gives vs (Err OutOfMemory) runs = tt
  each_gives vs (Err (At path)) runs = runs_gives 0 vs (Err (At path)) runs

  units_give : (vs : List V) (q : Result (List S) (List PathStep)) (units : List T) → q ≡ Ok (map output_view units) → (q >>= λ _. Ok (tt {0})) ≡ Ok tt
  units_give vs q units is = rw is refl

  none_give : (fault : Fault) (q : Result (List S) (List PathStep)) → Fails fault q → Fails fault (q >>= λ _. Ok (tt {0}))
  none_give OutOfMemory q fails = tt
  none_give (At path) q fails = rw fails refl

  -- a list whose items were all looked at
  pub checks_give : (vs : List V) (r : Result ⊤ Fault) → ChecksEach {T = T} Reads vs r → Gives (λ u. u) r (each reader 0 (map input_view vs) >>= λ _. Ok tt)
  checks_give vs (Ok u) checks = units_give vs (each reader 0 (map input_view vs)) checks.0 (runs_gives 0 vs (Ok checks.0) checks.1)
  checks_give vs (Err OutOfMemory) checks = tt
  checks_give vs (Err (At path)) checks = none_give (At path) (each reader 0 (map input_view vs)) (runs_gives 0 vs (Err (At path)) checks)

-- what was read, from one step above
pub under_gives : {X Y : Type 0} (output_view : X → Y) (step : PathStep) (q : Result Y (List PathStep)) (inner r : Result X Fault) → Gives output_view inner q → IsUnder step inner r → Gives output_view r (under step q)
under_gives output_view step q (Ok x) (Ok y) gives is_under = rw (gives, is_under) refl
under_gives output_view step q (Ok x) (Err fault) gives is_under = absurd is_under
under_gives output_view step q (Err inner) (Ok y) gives is_under = absurd is_under
under_gives output_view step q (Err inner) (Err OutOfMemory) gives is_under = tt
under_gives output_view step q (Err OutOfMemory) (Err (At path)) gives is_under = absurd is_under
under_gives output_view step q (Err (At below)) (Err (At path)) gives is_under = rw gives (ap Err (sym is_under))

pub list_items-items_of : (ds : List Data) → list_items (items_of ds) ≡ ds
list_items-items_of [] = refl
list_items-items_of (d ∷ ds) = ap (λ es. d ∷ es) (list_items-items_of ds)

-- a list of values whose items are read in turn
pub list_gives : {T S : Type 0} (output_view : T → S) (reader : Data → Result S (List PathStep)) (d : Data) (vs : List Value) (r : Result (Vec T) Fault) → Some (items_view vs) ≡ as_array d
    → Gives (λ (v : Vec T). map output_view v.items) r (each reader 0 (map view vs)) → Gives (λ (v : Vec T). map output_view v.items) r (list_of reader d)
unfolding list_of
list_gives {T} output_view reader d vs r is gives =
    let P : List Data → Type 0 = λ ds. Gives (λ (v : Vec T). map output_view v.items) r (each reader 0 ds) in
    let Q : Option Items → Type 0 = λ o. Gives (λ (v : Vec T). map output_view v.items) r (or_fault o >>= λ items. each reader 0 (list_items items)) in
    subst Q is (subst P (sym (list_items-items_of (map view vs))) gives)

map_itself : {T : Type 0} (xs : List T) → map (λ x. x) xs ≡ xs
map_itself [] = refl
map_itself (x ∷ xs) = ap (λ ys. x ∷ ys) (map_itself xs)

-- items that are shown as they are
pub gives_itself : {T : Type 0} (r : Result (Vec T) Fault) (q : Result (List T) (List PathStep)) → Gives (λ (v : Vec T). map (λ x. x) v.items) r q → Gives (λ (v : Vec T). v.items) r q
gives_itself (Ok v) q gives = gives ∙ ap Ok (map_itself v.items)
gives_itself (Err fault) q gives = gives

-- a list that was read item by item, and whose items are shown as they are
pub each_gives_itself : {V A T : Type 0} (input_view : V → A) (reader : A → Result T (List PathStep)) (Reads : V → Result T Fault → Type 0) → ((v : V) (r : Result T Fault) → Reads v r → Gives (λ x. x) r (reader (input_view v)))
    → (vs : List V) (r : Result (Vec T) Fault) → ReadsEach Reads vs r → Gives (λ (v : Vec T). v.items) r (each reader 0 (map input_view vs))
each_gives_itself input_view reader Reads gives vs r reads = gives_itself r (each reader 0 (map input_view vs)) (each_gives input_view (λ x. x) reader Reads gives vs r reads)
