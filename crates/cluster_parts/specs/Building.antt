-- What is built while functions are looked at, or the first function that is refused.
use Rattle.std.specs.Prelude.{◌≡◌, ◌∷◌, Option, Some, None, Result, Ok, Err}
use Rattle.raw_document.specs.declared.doc_path.PathStep.{PathStep}
use Rattle.cluster_parts.specs.declared.build_error.BuildError.{BuildError}
use Rattle.cluster_parts.specs.declared.build_error.BuildError.TheVariants.{OutOfMemory, Refused}
use Rattle.cluster_parts.specs.Functions.{RefusedFunction}

-- the error names this function, unless memory ran out
abbrev pub NamesFunction : Option RefusedFunction → BuildError → Type 0
NamesFunction refused OutOfMemory = Unit {0}
NamesFunction refused (Refused path cause) =
    refused ≡ Some (record { path = path.steps.items; cause = cause })

-- What was built, through its view, is this part, and no function of it is refused; else the first
-- that is, unless memory ran out.
abbrev pub Builds : {X Y : Type 0} → (X → Y) → Result X BuildError → Option RefusedFunction → Y
    → Type 0
Builds view (Ok found) refused part = (refused ≡ None) × (view found ≡ part)
Builds view (Err error) refused part = NamesFunction refused error

-- the second error is the first, told from one step above
abbrev pub IsErrorUnder : PathStep → BuildError → BuildError → Type 0
IsErrorUnder step below OutOfMemory = Unit {0}
IsErrorUnder step OutOfMemory (Refused path cause) = ⊥
IsErrorUnder step (Refused below reason) (Refused path cause) =
    (path.steps.items ≡ step ∷ below.steps.items) × (cause ≡ reason)

-- what was built, told from one step above
abbrev pub IsBuiltUnder : {X : Type 0} → PathStep → Result X BuildError → Result X BuildError
    → Type 0
IsBuiltUnder step (Ok found) (Ok same) = same ≡ found
IsBuiltUnder step (Ok found) (Err error) = ⊥
IsBuiltUnder step (Err below) (Ok found) = ⊥
IsBuiltUnder step (Err below) (Err error) = IsErrorUnder step below error
