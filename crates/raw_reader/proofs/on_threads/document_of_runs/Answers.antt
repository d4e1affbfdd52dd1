use Rattle.std.proofs.Common.{◌≡◌, [], ℕ, List, map, Ok, Option, Some, None, IfSome, sym, subst}
use Rattle.json.specs.Token.{Token}
use Rattle.json.specs.Json.{value}
use Rattle.json.specs.Lex.{tokens}
use Rattle.serde_json.specs.Data.{Data}
use Rattle.serde_json.specs.Read.{of_json, converted, read}
use Rattle.raw_document.specs.Raw.{raw_view}
use Rattle.raw_document.specs.Forms.{document_at}
use Rattle.raw_document.specs.declared.raw.RawDocument.{RawDocument}
use Rattle.raw_reader.specs.Stretches.{AreStretches, AreRead}
use Rattle.raw_reader.specs.Runs.{stretches_in, pieces_in, AreRunsRead}
use Rattle.raw_reader.specs.declared.runs.Run.{Run}
use Rattle.raw_reader.proofs.Reading.{whole_read}
use Rattle.raw_reader.proofs.Cutting.{all_taken}
use Rattle.raw_reader.proofs.Running.{runs_read}
use Rattle.raw_reader.proofs.on_threads.document_of_runs.Goals as goal

-- what was put together of tokens is what is read of a text that has these
of_tokens : (Joined : List Token → Type 0) (r : Option RawDocument) → IfSome r (λ raw. (start : List Token) → Joined start
    → (d : Data) × (converted of_json (value 127 start) ≡ Some (d, [])) × (document_at d ≡ Ok (raw_view raw)))
    → IfSome r (λ raw. (text : List ℕ) → Joined (tokens text) → (d : Data) × (read text ≡ Some d) × (document_at d ≡ Ok (raw_view raw)))
of_tokens Joined None h = tt
of_tokens Joined (Some raw) h = λ text joined. let found = h (tokens text) joined in (found.0, whole_read (value 127 (tokens text)) found.0 found.1, found.2)

given : (r : Option RawDocument) (P : RawDocument → List ℕ → Type 0) (Joined : List ℕ → Type 0) (Cut : List ℕ → List Run → Type 0) (Read : List Run → Type 0)
    → ((text : List ℕ) (runs : List Run) → Cut text runs → Read runs → Joined text)
    → IfSome r (λ raw. (text : List ℕ) → Joined text → P raw text)
    → IfSome r (λ raw. (text : List ℕ) (runs : List Run) → Cut text runs → Read runs → P raw text)
given None P Joined Cut Read so h = tt
given (Some raw) P Joined Cut Read so h = λ text runs cut read. h text (so text runs cut read)

pub returns : goal.returns
returns c =
    let version = c.args.version in
    let all = c.in_ok-all.all.items in
    let parts = c.in_ok-all.ensures.0 in
    let found : c.args.found.items ≡ map Some parts = c.in_ok-all.ensures.1 in
    let joined : all ≡ pieces_in parts = c.in_ok-all.ensures.2 in
    given c.document.result (λ raw text. (d : Data) × (read text ≡ Some d) × (document_at d ≡ Ok (raw_view raw))) _ (λ text runs. AreStretches version text (stretches_in runs)) (λ runs. AreRunsRead runs c.args.found.items)
    (λ text runs cut read.
    let each = runs_read runs parts (subst (AreRunsRead runs) found read) in
    c.in_ok-joined.ensures version (tokens text) (all_taken version text (stretches_in runs) all cut (subst (λ ps. AreRead (stretches_in runs) (map Some ps)) (sym joined) each)))
    (of_tokens _ c.document.result c.document.ensures)
