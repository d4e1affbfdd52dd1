use Rattle.std.proofs.Common.{◌≡◌, ℕ, List, Option, Some, None, Ok, refl, ap, ◌∙◌}
use Rattle.std.specs.Prelude.{IfSome}
use Rattle.json.specs.Token.{Token}
use Rattle.serde_json.specs.Data.{Members, object}
use Rattle.raw_document.specs.Raw.{raw_view}
use Rattle.raw_document.specs.Forms.{document_at}
use Rattle.raw_document.specs.declared.raw.RawDocument.{RawDocument}
use Rattle.raw_reader.specs.Slots.{DocumentHolds}
use Rattle.raw_reader.specs.Takes.{Takes, TakesObject}
use Rattle.raw_reader.proofs.document.RawDocumentPart.read.Goals as goal

document_taken : (depth : ℕ) (old new : List Token) (Holds : Members → Type 0) (r : Option RawDocument) → TakesObject depth old new Holds
    → IfSome r (λ raw. (found : Members) → Holds found → document_at (object found) ≡ Ok (raw_view raw))
    → IfSome r (λ raw. Takes depth old new (λ d. document_at d ≡ Ok (raw_view raw)))
document_taken depth old new Holds None taken h = tt
document_taken depth old new Holds (Some raw) taken h = (taken.0, taken.1, ap document_at taken.2.1 ∙ h taken.2.0 taken.2.2)

pub fill_slots-requires : goal.fill_slots-requires
fill_slots-requires c κs = ((refl, tt), c.new-slots.ensures c.args.version)

pub returns-clause-value : goal.returns-clause-value
returns-clause-value c =
    document_taken c.args.depth c.args.reader.now c.fill_slots.new.reader (DocumentHolds c.args.version c.fill_slots.new.slots) c.document_of.result c.in_ok-fill_slots.ensures.value c.document_of.ensures
