-- Going through a list, item by item.
use Rattle.std.proofs.Common.{◌≡◌, ℕ, suc, ◌+◌, ◌<◌, List, [], ◌∷◌, ◌++◌, length, drop, get_or, Result, Ok, Err, refl, sym, ap, subst, ◌∙◌, append_assoc, inl, inr, add-one, drop-cons}
use Rattle.std.specs.Prelude.{◌⊎◌, ⊤}
use Rattle.std.specs.Global.{Vec}
use Rattle.std.proofs.lemmas.List.{append-nil}
use Rattle.raw_document.specs.declared.doc_path.PathStep.TheVariants.{Index}
use Rattle.raw_document.specs.declared.doc_path.Fault.{Fault}
use Rattle.raw_document.specs.Reading.{IsFaultUnder}
use Rattle.raw_document.specs.declared.doc_path.Fault.TheVariants.{OutOfMemory, At}

-- Reading the items, of which the first stands at this place, ends so, where Reads says what the reading of one item may give.
unfoldable pub Runs : {V T : Type 0} → (V → Result T Fault → Type 0) → ℕ → List V → Result (List T) Fault → Type 0
Runs Reads place [] (Ok []) = Unit {0}
Runs Reads place [] (Ok (x ∷ xs)) = ⊥
Runs Reads place [] (Err fault) = ⊥
Runs Reads place (v ∷ vs) (Ok []) = ⊥
Runs Reads place (v ∷ vs) (Ok (x ∷ xs)) = Reads v (Ok x) × Runs Reads (suc place) vs (Ok xs)
Runs {V} {T} Reads place (v ∷ vs) (Err fault) =
    ((inner : Fault) × Reads v (Err inner) × IsFaultUnder (Index place) inner fault) ⊎ ((x : T) × Reads v (Ok x) × Runs Reads (suc place) vs (Err fault))

-- the same of what a function returned, unless memory ran out
abbrev pub ReadsEach : {V T : Type 0} → (V → Result T Fault → Type 0) → List V → Result (Vec T) Fault → Type 0
ReadsEach Reads vs (Ok found) = Runs Reads 0 vs (Ok found.items)
ReadsEach Reads vs (Err OutOfMemory) = Unit {0}
ReadsEach Reads vs (Err (At path)) = Runs Reads 0 vs (Err (At path))

-- the same where nothing is kept of the items
abbrev pub ChecksEach : {V T : Type 0} → (V → Result T Fault → Type 0) → List V → Result ⊤ Fault → Type 0
ChecksEach {V} {T} Reads vs (Ok u) = (found : List T) × Runs Reads 0 vs (Ok found)
ChecksEach Reads vs (Err OutOfMemory) = Unit {0}
ChecksEach Reads vs (Err (At path)) = Runs Reads 0 vs (Err (At path))

-- what was read before, and what is still read
abbrev pub front : {T : Type 0} → List T → Result (List T) Fault → Result (List T) Fault
front xs (Ok ys) = Ok (xs ++ ys)
front xs (Err fault) = Err fault

-- However the rest ends, the whole ends so, behind what was read before.
pub record Continues {V T : Type 0} (Reads : V → Result T Fault → Type 0) (i : ℕ) (vs : List V) (xs : List T) : Type 0 where
  pub leads : (r : Result (List T) Fault) → Runs Reads i (drop i vs) r → Runs Reads 0 vs (front xs r)

front-nil : {T : Type 0} (r : Result (List T) Fault) → front [] r ≡ r
front-nil (Ok ys) = refl
front-nil (Err fault) = refl

front-push : {T : Type 0} (xs : List T) (x : T) (r : Result (List T) Fault) → front xs (front (x ∷ []) r) ≡ front (xs ++ x ∷ []) r
front-push xs x (Ok ys) = ap Ok (sym (append_assoc xs (x ∷ []) ys))
front-push xs x (Err fault) = refl

pub Continues-start : {V T : Type 0} (Reads : V → Result T Fault → Type 0) (vs : List V) → Continues Reads 0 vs []
Continues-start {V} {T} Reads vs = record { leads = λ r runs. let P : Result (List T) Fault → Type 0 = λ q. Runs Reads 0 vs q in subst P (sym (front-nil r)) runs }

-- one item that is read
runs_more : {V T : Type 0} (Reads : V → Result T Fault → Type 0) (i : ℕ) (v : V) (vs : List V) (x : T) (r : Result (List T) Fault) → Reads v (Ok x) → Runs Reads (suc i) vs r → Runs Reads i (v ∷ vs) (front (x ∷ []) r)
unfolding Runs
runs_more Reads i v vs x (Ok ys) given runs = (given, runs)
runs_more Reads i v vs x (Err fault) given runs = inr (x, given, runs)

pub Continues-more : {V T : Type 0} (Reads : V → Result T Fault → Type 0) (i : ℕ) (vs : List V) (xs : List T) (v : V) (x : T) → i < length vs → get_or vs i v ≡ v → Reads v (Ok x)
    → Continues Reads i vs xs → Continues Reads (i + 1) vs (xs ++ x ∷ [])
Continues-more {V} {T} Reads i vs xs v x within here given before = record {
  leads = λ r runs.
      let P : Result (List T) Fault → Type 0 = λ q. Runs Reads 0 vs q in
      let Q : List V → Type 0 = λ rest. Runs Reads i rest (front (x ∷ []) r) in
      let same : v ∷ drop (suc i) vs ≡ drop i vs = ap (λ y. y ∷ drop (suc i) vs) (sym here) ∙ sym (drop-cons vs i v within) in
      let later : Runs Reads (suc i) (drop (suc i) vs) r = rw add-one at runs in
      subst P (front-push xs x r) (before.leads (front (x ∷ []) r) (subst Q same (runs_more Reads i v (drop (suc i) vs) x r given later)));
}

stops_here : {V T : Type 0} (Reads : V → Result T Fault → Type 0) (i : ℕ) (v : V) (vs : List V) (inner fault : Fault) → Reads v (Err inner) → IsFaultUnder (Index i) inner fault → Runs {T = T} Reads i (v ∷ vs) (Err fault)
unfolding Runs
stops_here Reads i v vs inner fault given under = inl (inner, given, under)

-- an item that is refused
pub Continues-stop : {V T : Type 0} (Reads : V → Result T Fault → Type 0) (i : ℕ) (vs : List V) (xs : List T) (v : V) (inner fault : Fault) → i < length vs → get_or vs i v ≡ v → Reads v (Err inner) → IsFaultUnder (Index i) inner fault
    → Continues Reads i vs xs → Runs {T = T} Reads 0 vs (Err fault)
Continues-stop {V} {T} Reads i vs xs v inner fault within here given under before =
    let Q : List V → Type 0 = λ rest. Runs {T = T} Reads i rest (Err fault) in
    let same : v ∷ drop (suc i) vs ≡ drop i vs = ap (λ y. y ∷ drop (suc i) vs) (sym here) ∙ sym (drop-cons vs i v within) in
    before.leads (Err fault) (subst Q same (stops_here Reads i v (drop (suc i) vs) inner fault given under))

runs_out : {V T : Type 0} (Reads : V → Result T Fault → Type 0) (i : ℕ) (rest : List V) → rest ≡ [] → Runs {T = T} Reads i rest (Ok [])
unfolding Runs
runs_out {V} {T} Reads i rest none = let P : List V → Type 0 = λ q. Runs {T = T} Reads i q (Ok []) in subst P (sym none) tt

-- the end of the list
pub Continues-end : {V T : Type 0} (Reads : V → Result T Fault → Type 0) (i : ℕ) (vs : List V) (xs : List T) → drop i vs ≡ [] → Continues Reads i vs xs → Runs Reads 0 vs (Ok xs)
Continues-end {V} {T} Reads i vs xs none before =
    let P : List T → Type 0 = λ q. Runs Reads 0 vs (Ok q) in
    subst P (append-nil xs) (before.leads (Ok []) (runs_out Reads i (drop i vs) none))

pub ReadsEach-stop : {V T : Type 0} (Reads : V → Result T Fault → Type 0) (i : ℕ) (vs : List V) (xs : List T) (v : V) (inner fault : Fault) → i < length vs → get_or vs i v ≡ v → Reads v (Err inner) → IsFaultUnder (Index i) inner fault
    → Continues Reads i vs xs → ReadsEach {T = T} Reads vs (Err fault)
ReadsEach-stop Reads i vs xs v inner OutOfMemory within here given under before = tt
ReadsEach-stop Reads i vs xs v inner (At path) within here given under before = Continues-stop Reads i vs xs v inner (At path) within here given under before

pub ChecksEach-stop : {V T : Type 0} (Reads : V → Result T Fault → Type 0) (i : ℕ) (vs : List V) (xs : List T) (v : V) (inner fault : Fault) → i < length vs → get_or vs i v ≡ v → Reads v (Err inner) → IsFaultUnder (Index i) inner fault
    → Continues Reads i vs xs → ChecksEach {T = T} Reads vs (Err fault)
ChecksEach-stop Reads i vs xs v inner OutOfMemory within here given under before = tt
ChecksEach-stop Reads i vs xs v inner (At path) within here given under before = Continues-stop Reads i vs xs v inner (At path) within here given under before
