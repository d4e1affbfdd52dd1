-- Reading at a path: a value, or the path of the first fault from there on.
use Rattle.std.specs.Prelude.{◌≡◌, ℕ, suc, Bool, true, false, List, [], ◌∷◌, map, Option, Some, None, Result, Ok, Err, ⊤}
use Rattle.std.specs.Global.{Vec}
use Rattle.raw_document.specs.declared.doc_path.PathStep.{PathStep}
use Rattle.raw_document.specs.declared.doc_path.PathStep.TheVariants.{Index}
use Rattle.raw_document.specs.declared.doc_path.Fault.{Fault}
use Rattle.raw_document.specs.declared.doc_path.Fault.TheVariants.{OutOfMemory, At}

-- ---- reading, which goes on after a value and stops at the first fault

infixl 10 ◌>>=◌
abbrev pub ◌>>=◌ : {A B : Type 0} → Result A (List PathStep) → (A → Result B (List PathStep))
    → Result B (List PathStep)
(Ok x) >>= f = f x
(Err path) >>= f = Err path

-- the same, told from one step above
abbrev pub under : {A : Type 0} → PathStep → Result A (List PathStep) → Result A (List PathStep)
under step (Ok x) = Ok x
under step (Err path) = Err (step ∷ path)

-- a value, or a fault here
abbrev pub or_fault : {A : Type 0} → Option A → Result A (List PathStep)
or_fault None = Err []
or_fault (Some x) = Ok x

-- nothing wrong, or a fault here
abbrev pub check : Bool → Result ⊤ (List PathStep)
check true = Ok tt
check false = Err []

-- each item in turn, of which the first stands at this place
unfoldable pub each : {A B : Type 0} → (A → Result B (List PathStep)) → ℕ → List A
    → Result (List B) (List PathStep)
each read place [] = Ok []
each read place (item ∷ items) =
    under (Index place) (read item) >>= λ x. each read (suc place) items >>= λ xs. Ok (x ∷ xs)

-- nothing wrong in any item, or the path of the first fault
abbrev pub check_each : {A : Type 0} → (A → Result ⊤ (List PathStep)) → List A
    → Result ⊤ (List PathStep)
check_each check items = each check 0 items >>= λ _. Ok tt

-- each item in turn, where a state goes from one to the next
unfoldable pub fold_each : {S A : Type 0} → (S → A → Result S (List PathStep)) → ℕ → S → List A
    → Result S (List PathStep)
fold_each step place state [] = Ok state
fold_each step place state (item ∷ items) =
    under (Index place) (step state item) >>= λ next. fold_each step (suc place) next items

-- ---- what the code answers

-- what each item of a vector shows
abbrev pub each_view : {X Y : Type 0} → (X → Y) → Vec X → List Y
each_view view found = map view found.items

-- The fault is the one that reading ends with, unless memory ran out.
abbrev pub Fails : {Y : Type 0} → Fault → Result Y (List PathStep) → Type 0
Fails OutOfMemory read = Unit {0}
Fails (At path) read = read ≡ Err path.steps.items

-- What a function returned, through its view, is what reading gives, unless memory ran out.
abbrev pub Gives : {X Y : Type 0} → (X → Y) → Result X Fault → Result Y (List PathStep) → Type 0
Gives view (Ok x) read = read ≡ Ok (view x)
Gives view (Err fault) read = Fails fault read

-- the fault is at the path
abbrev pub IsFaultAt : List PathStep → Fault → Type 0
IsFaultAt path OutOfMemory = Unit {0}
IsFaultAt path (At found) = found.steps.items ≡ path

-- the second fault is the first, told from one step above
abbrev pub IsFaultUnder : PathStep → Fault → Fault → Type 0
IsFaultUnder step below OutOfMemory = Unit {0}
IsFaultUnder step OutOfMemory (At path) = ⊥
IsFaultUnder step (At below) (At path) = path.steps.items ≡ step ∷ below.steps.items

-- what was read, told from one step above
abbrev pub IsUnder : {T : Type 0} → PathStep → Result T Fault → Result T Fault → Type 0
IsUnder step (Ok x) (Ok y) = y ≡ x
IsUnder step (Ok x) (Err fault) = ⊥
IsUnder step (Err inner) (Ok y) = ⊥
IsUnder step (Err inner) (Err fault) = IsFaultUnder step inner fault
