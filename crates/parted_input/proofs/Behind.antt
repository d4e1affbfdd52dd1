-- A part behind a document.
use Rattle.std.proofs.Common.{◌≡◌, ℕ, List, Some, Ok, ap, ap₂, sym, ◌∙◌}
use Rattle.std.specs.Prelude.{drop}
use Rattle.doc_parts.specs.Document.{Accepted, document}
use Rattle.two_part.specs.declared.Parts.{Parts}
use Rattle.two_part.specs.TwoPart.{document_in, parts_of}
use Rattle.parted_input.specs.Parted.{accepted_parts, parts_at, with_part}

-- the parts that were found, of which the first is accepted
pub accepted_behind : (input : List ℕ) (parts : Parts) (bytes part : List ℕ) (accepted : Accepted) → Some parts ≡ parts_of input → document bytes ≡ Ok accepted
    → bytes ≡ document_in input parts → part ≡ drop parts.end input → accepted_parts input ≡ Ok (record { accepted = accepted; part = part })
accepted_behind input parts bytes part accepted found read front behind =
    ap (parts_at input) (sym found)
    ∙ ap₂ (λ (rest first : List ℕ). with_part rest (document first)) (sym behind) (sym front)
    ∙ ap (with_part part) read
