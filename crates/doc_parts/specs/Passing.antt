-- What of one pass of the definition Document the code answers.
use Rattle.std.specs.Prelude.{◌≡◌, List, Option, None, Result, Ok, Err, IfSome, ⊤}
use Rattle.raw_document.specs.declared.doc_path.PathStep.{PathStep}
use Rattle.doc_refusals.specs.declared.doc_error.DocError.{DocError}
use Rattle.doc_refusals.specs.Refusals.{Refusal, refusal_of}
use Rattle.doc_parts.specs.Document.{refused_by, unless}

-- the error is the refusal, or says that memory ran out
abbrev pub NamesRefusal : {A : Type 0} → Result A Refusal → DocError → Type 0
NamesRefusal read error = IfSome (refusal_of error) (λ refusal. read ≡ Err refusal)

-- There is no fault, and what was made is right; else the error is the refusal of the fault, unless
-- memory ran out.
abbrev pub Makes : {X C : Type 0} → Result X DocError → (C → Refusal) → Option C → (X → Type 0)
    → Type 0
Makes (Ok made) number fault IsMade = (fault ≡ None) × IsMade made
Makes (Err error) number fault IsMade = NamesRefusal (unless number fault) error

-- The pass lets through; else the error is the refusal of its fault, unless memory ran out.
abbrev pub PassesBy : (List PathStep → Refusal) → Result ⊤ (List PathStep) → Result ⊤ DocError
    → Type 0
PassesBy number pass (Ok passed) = pass ≡ Ok tt
PassesBy number pass (Err error) = NamesRefusal (refused_by number pass) error
