-- What is read of a text in UTF-8 is what is read of its bytes.
use Rattle.std.proofs.Common.{◌≡◌, ℕ, List, Option, Some, None, Ok, sym, ap, ◌∙◌}
use Rattle.std.specs.Prelude.{IfSome}
use Rattle.std.specs.Str.{IsUtf8}
use Rattle.serde_json.specs.Data.{Data}
use Rattle.serde_json.specs.Read.{read}
use Rattle.raw_document.specs.Json.{json}
use Rattle.raw_document.specs.Raw.{raw_view}
use Rattle.raw_document.specs.Forms.{document_at}
use Rattle.raw_document.specs.declared.raw.RawDocument.{RawDocument}
use Rattle.raw_document.proofs.JsonReading.{json_read}

pub of_bytes : (bytes text : List ℕ) (r : Option RawDocument) → text ≡ bytes → IsUtf8 bytes
    → IfSome r (λ raw. (d : Data) × (read text ≡ Some d) × (document_at d ≡ Ok (raw_view raw)))
    → IfSome r (λ raw. (d : Data) × (json bytes ≡ Some d) × (document_at d ≡ Ok (raw_view raw)))
of_bytes bytes text None same utf8 h = tt
of_bytes bytes text (Some raw) same utf8 h = (h.0, json_read bytes h.0 utf8 (ap read (sym same) ∙ h.1), h.2)
