use Rattle.std.proofs.Common.{◌≡◌, ℕ, List, Some, Err, refl, sym, subst}
use Rattle.std.specs.Prelude.{IfSome}
use Rattle.serde_json.specs.Data.{Data}
use Rattle.raw_document.specs.declared.doc_path.Fault.{Fault}
use Rattle.raw_document.specs.declared.doc_path.Fault.TheVariants.{OutOfMemory, At}
use Rattle.raw_document.specs.Forms.{document_at}
use Rattle.raw_document.specs.Json.{json}
use Rattle.raw_document.specs.Reading.{Fails}
use Rattle.doc_refusals.specs.declared.doc_error.DocError.{DocError}
use Rattle.doc_parts.specs.Passing.{NamesRefusal}
use Rattle.doc_parts.specs.Document.{document, document_of_value}
use Rattle.doc_refusals.specs.Refusals.{IsRefusalBy, bad_shape}
use Rattle.document_reader.proofs.refusal.shape_refusal.Goals as goal

from_fault : (bytes : List ℕ) (d : Data) (fault : Fault) (error : DocError) → json bytes ≡ Some d → Fails fault (document_at d) → IsRefusalBy bad_shape fault error → NamesRefusal (document bytes) error
unfolding document document_of_value
from_fault bytes d OutOfMemory error read fails refused = subst (λ e. NamesRefusal (document bytes) e) (sym refused) tt
from_fault bytes d (At path) error read fails refused = subst (λ o. IfSome o (λ r. document bytes ≡ Err r)) (sym refused) (rw (read, fails) refl)

pub returns : goal.returns
returns c =
    let fault = c.in_ok-find_fault.ensures in
    from_fault c.args.bytes.now fault.0 c.in_ok-find_fault.field-0 c.shape.result fault.1 fault.2 c.shape.ensures
