use Rattle.std.proofs.Common.{rules, ◌≡◌, ℕ, ◌<◌, List, length, slice_index_or, Some, Ok, Option, Result, None, IfSome, IfOk, sym, ◌∙◌, subst}
use Rattle.std.specs.Global.{Vec}
use Rattle.raw_reader.specs.declared.pieces.Piece.{Piece}
use Rattle.serde_json.specs.Data.{Data}
use Rattle.serde_json.specs.Read.{read}
use Rattle.raw_document.specs.Raw.{raw_view}
use Rattle.raw_document.specs.Forms.{document_at}
use Rattle.raw_document.specs.declared.raw.RawDocument.{RawDocument}
use Rattle.raw_reader.specs.Stretches.{AreStretches}
use Rattle.raw_reader.specs.Runs.{stretches_in, IsRunRead, AreRunsRead}
use Rattle.raw_reader.specs.declared.runs.Run.{Run}
use Rattle.raw_reader.proofs.Running.{are_read}
use Rattle.raw_reader.proofs.on_threads.read_text_on_threads.Goals as goal

-- what holds of any runs of any text holds of these
of_these : (r : Option RawDocument) (text : List ℕ) (runs : List Run) (Cut : List ℕ → List Run → Type 0) (Read : List Run → Type 0) (P : RawDocument → List ℕ → Type 0)
    → IfSome r (λ raw. (text : List ℕ) (runs : List Run) → Cut text runs → Read runs → P raw text) → Cut text runs → Read runs → IfSome r (λ raw. P raw text)
of_these None text runs Cut Read P h cut are = tt
of_these (Some raw) text runs Cut Read P h cut are = h text runs cut are

of_ok : {V E : Type 0} (r : Result V E) (v : V) (P : V → Type 0) → r ≡ Ok v → IfOk r P → P v
of_ok r v P e h = subst (λ r. IfOk r P) e h

pub returns : goal.returns
returns g c =
    let text = c.args.text.now in
    let version = c.in_ok-version.version in
    let runs = c.in_ok-runs.runs.items in
    let found = c.in_ok-found.found.items in
    let given : c.map_apart.result ≡ Ok c.in_ok-found.found = search rules in
    let lens = of_ok c.map_apart.result c.in_ok-found.found _ given c.map_apart.ensures.len in
    let same : length found ≡ length runs = sym c.in_ok-found.found.ok.0 ∙ lens ∙ c.in_ok-runs.runs.ok.0 in
    let cut : AreStretches version text (stretches_in runs) = subst (AreStretches version text) (sym c.in_ok-runs.ensures) c.in_ok-stretches.ensures in
    let each : (i : ℕ) (run : Run) (r : Option (Vec (Vec Piece))) → i < length runs → IsRunRead (slice_index_or runs i run) (slice_index_or found i r) = λ i run r lt.
    let job = (of_ok c.map_apart.result c.in_ok-found.found _ given c.map_apart.ensures.each i r lt).1 in
    subst (λ t. IsRunRead t (slice_index_or found i r)) (sym (job.job_is run)) job.call.met in
    of_these c.document_of_runs.result text runs (λ text runs. AreStretches version text (stretches_in runs)) (λ runs. AreRunsRead runs found) (λ raw text. (d : Data) × (read text ≡ Some d) × (document_at d ≡ Ok (raw_view raw)))
    c.document_of_runs.ensures cut (are_read runs found same each)
