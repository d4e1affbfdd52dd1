use Rattle.std.proofs.Common.{◌≡◌, ℕ, List, Option, Some, None, sym, ap, ◌∙◌}
use Rattle.std.specs.Prelude.{IfSome}
use Rattle.std.specs.Str.{IsUtf8}
use Rattle.serde_json.specs.Data.{Data}
use Rattle.serde_json.specs.Read.{read}
use Rattle.raw_document.specs.declared.doc_path.Fault.{Fault}
use Rattle.raw_document.specs.Forms.{document_at}
use Rattle.raw_document.specs.Json.{json}
use Rattle.raw_document.specs.Reading.{Fails}
use Rattle.raw_document.proofs.JsonReading.{json_read}
use Rattle.fault_scan.proofs.document.find_fault.Goals as goal

of_bytes : (bytes text : List ℕ) (r : Option Fault) → text ≡ bytes → IsUtf8 bytes
    → IfSome r (λ fault. (d : Data) × (read text ≡ Some d) × Fails fault (document_at d))
    → IfSome r (λ fault. (d : Data) × (json bytes ≡ Some d) × Fails fault (document_at d))
of_bytes bytes text None same utf8 h = tt
of_bytes bytes text (Some fault) same utf8 h = (h.0, json_read bytes h.0 utf8 (ap read (sym same) ∙ h.1), h.2)

pub returns : goal.returns
returns c = of_bytes c.args.bytes.now c.in-Ok.text.now c.text_fault.result c.in-Ok.ensures.cases.0 c.in-Ok.ensures.cases.1 c.text_fault.ensures
