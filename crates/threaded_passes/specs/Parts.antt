-- A part of a list that is walked by itself.
use Rattle.std.specs.Prelude.{ℕ, List, Result}
use Rattle.raw_document.specs.declared.key.DocKey.{DocKey}
use Rattle.raw_document.specs.declared.doc_path.PathStep.{PathStep}
use Rattle.raw_document.specs.declared.doc_path.PathStep.TheVariants.{Key}
use Rattle.raw_document.specs.Reading.{under, fold_each}

-- of the items, from a place on, of a list that is a member
abbrev pub fold_member_from : {S A : Type 0} → DocKey → (S → A → Result S (List PathStep)) → ℕ → S
    → List A → Result S (List PathStep)
fold_member_from key step from state items = under (Key key) (fold_each step from state items)
