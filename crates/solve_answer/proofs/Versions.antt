-- What was read of an accepted document has the version that a look at the text alone finds.
use Rattle.std.proofs.Common.{◌≡◌, ◌∙◌, ℕ, List, [], ◌∷◌, Option, Some, None, Result, Ok, Err, refl, ap}
use Rattle.std.specs.Prelude.{◌==◌, ⊤}
use Rattle.serde_json.specs.Data.{Data}
use Rattle.raw_document.specs.declared.key.DocKey.TheVariants as keys
use Rattle.raw_document.specs.declared.doc_path.PathStep.{PathStep}
use Rattle.raw_document.specs.Forms.{closings_at, document_at, group_at, link_at, report_at}
use Rattle.raw_document.specs.Json.{json}
use Rattle.raw_document.specs.Raw.{Closing, Group, Link, Raw, Report}
use Rattle.raw_document.specs.Reading.{◌>>=◌}
use Rattle.raw_document.specs.Shape.{field, list_of, object, text, whole}
use Rattle.version_scan.specs.Version.{is_4_at, is_4_in, is_of_version_4, is_version_4}
use Rattle.wan_topology.specs.Network.{network_of}
use Rattle.path_groups.specs.Faults.{plan_fault}
use Rattle.doc_names.specs.NameTexts.{NameTexts}
use Rattle.doc_names.specs.Owners.{not_owned}
use Rattle.doc_passes.specs.Limits.{overrun}
use Rattle.doc_passes.specs.Names.{name_lists}
use Rattle.doc_passes.specs.Numbers.{Numbers, numbers}
use Rattle.doc_passes.specs.Ranges.{ranges}
use Rattle.doc_parts.specs.Document as documents
use Rattle.doc_parts.specs.Document.{Accepted, accepted, document, document_by, document_numbered, document_of_raw, document_of_value, links_of, network_fault, over_limit, policy_fault, refused_by, unless, value_of}
use Rattle.cluster_parts.specs.Functions.{refused_in_groups}
use Rattle.doc_refusals.specs.Refusals.{Refusal, bad_shape, not_owner, out_of_range, refused_function, refused_links, refused_paths, refused_tree, repeated_name, unknown_name}

-- ---- the version of what was read

abbrev raw_version : Result Raw (List PathStep) → ℕ
raw_version (Ok raw) = raw.version
raw_version (Err path) = 0

abbrev accepted_version : Result Accepted Refusal → ℕ
accepted_version (Ok accepted) = accepted.version
accepted_version (Err refusal) = 0

-- ---- the shape of a document

-- what is read behind the version
abbrev read_by : ℕ → Result ℕ (List PathStep) → Result (List Link) (List PathStep) → Result (List Group) (List PathStep) → Result (List (List ℕ)) (List PathStep) → Result (List Report) (List PathStep) → Result (List Closing) (List PathStep) → Result Raw (List PathStep)
read_by version top links groups reporters script closings =
    top >>= λ top. links >>= λ links. groups >>= λ groups. reporters >>= λ reporters. script >>= λ script. closings >>= λ closings.
    Ok (record { version = version; top = top; links = links; groups = groups; reporters = reporters; script = script; closings = closings })

behind : (version : ℕ) (top : Result ℕ (List PathStep)) (links : Result (List Link) (List PathStep)) (groups : Result (List Group) (List PathStep)) (reporters : Result (List (List ℕ)) (List PathStep)) (script : Result (List Report) (List PathStep)) (closings : Result (List Closing) (List PathStep)) (raw : Raw)
    → read_by version top links groups reporters script closings ≡ Ok raw → version ≡ raw.version
behind version (Ok top) (Ok links) (Ok groups) (Ok reporters) (Ok script) (Ok closings) raw e = ap raw_version e
behind version (Ok top) (Ok links) (Ok groups) (Ok reporters) (Ok script) (Err path) raw e = absurd cc
behind version (Ok top) (Ok links) (Ok groups) (Ok reporters) (Err path) closings raw e = absurd cc
behind version (Ok top) (Ok links) (Ok groups) (Err path) script closings raw e = absurd cc
behind version (Ok top) (Ok links) (Err path) reporters script closings raw e = absurd cc
behind version (Ok top) (Err path) groups reporters script closings raw e = absurd cc
behind version (Err path) links groups reporters script closings raw e = absurd cc

of_object : (d : Data) (raw : Raw) (object_ok : Result ⊤ (List PathStep)) (version : Result ℕ (List PathStep))
    → ◌≡◌ {A = Result Raw (List PathStep)} (object_ok >>= λ _. version >>= λ version. read_by version (field keys.Top whole d) (field keys.Links (list_of (link_at version)) d) (field keys.Groups (list_of (group_at version)) d) (field keys.Reporters (list_of text) d) (field keys.Script (list_of (report_at version)) d) (closings_at d)) (Ok raw)
    → version ≡ Ok raw.version
of_object d raw (Ok u) (Ok version) e =
    ap Ok (behind version (field keys.Top whole d) (field keys.Links (list_of (link_at version)) d) (field keys.Groups (list_of (group_at version)) d) (field keys.Reporters (list_of text) d) (field keys.Script (list_of (report_at version)) d) (closings_at d) raw e)
of_object d raw (Ok u) (Err path) e = absurd cc
of_object d raw (Err path) version e = absurd cc

of_shape : (d : Data) (raw : Raw) → document_at d ≡ Ok raw → field keys.Version whole d ≡ Ok raw.version
unfolding document_at
of_shape d raw e =
    of_object d raw (object (keys.Version ∷ keys.Top ∷ keys.Links ∷ keys.Groups ∷ keys.Reporters ∷ keys.Script ∷ []) (keys.Closings ∷ []) d) (field keys.Version whole d) e

-- ---- the passes behind

five : (a b c d e : Result ⊤ Refusal) (made found : Accepted)
    → ◌≡◌ {A = Result Accepted Refusal} (documents.◌>>=◌ a (λ _. documents.◌>>=◌ b (λ _. documents.◌>>=◌ c (λ _. documents.◌>>=◌ d (λ _. documents.◌>>=◌ e (λ _. Ok made)))))) (Ok found)
    → made.version ≡ found.version
five (Ok a) (Ok b) (Ok c) (Ok d) (Ok e) made found same = ap accepted_version same
five (Ok a) (Ok b) (Ok c) (Ok d) (Err refusal) made found same = absurd cc
five (Ok a) (Ok b) (Ok c) (Err refusal) e made found same = absurd cc
five (Ok a) (Ok b) (Err refusal) d e made found same = absurd cc
five (Ok a) (Err refusal) c d e made found same = absurd cc
five (Err refusal) b c d e made found same = absurd cc

of_parts : (raw : Raw) (names : NameTexts) (numbered : Numbers) (found : Accepted) → document_by raw names numbered ≡ Ok found → raw.version ≡ found.version
unfolding document_by
of_parts raw names numbered found e =
    five (unless refused_function (refused_in_groups raw.top raw.groups)) (unless refused_links (network_fault raw)) (unless refused_paths (plan_fault (network_of (links_of raw)) numbered.groups)) (unless refused_tree (policy_fault raw)) (unless not_owner (not_owned numbered.task_owners numbered.link_owners 0 numbered.script))
    (accepted raw names numbered) found e

of_numbers : (raw : Raw) (names : NameTexts) (numbered : Result Numbers Refusal) (found : Accepted) → documents.◌>>=◌ numbered (document_by raw names) ≡ Ok found → raw.version ≡ found.version
of_numbers raw names (Ok numbered) found e = of_parts raw names numbered found e
of_numbers raw names (Err refusal) found e = absurd cc

of_names : (raw : Raw) (counts range : Result ⊤ Refusal) (names : Result NameTexts Refusal) (found : Accepted)
    → documents.◌>>=◌ counts (λ _. documents.◌>>=◌ range (λ _. documents.◌>>=◌ names (document_numbered raw))) ≡ Ok found → raw.version ≡ found.version
of_names raw (Ok counts) (Ok range) (Ok names) found e = of_numbers raw names (refused_by unknown_name (numbers names.links names.tasks names.reporters raw)) found e
of_names raw (Ok counts) (Ok range) (Err refusal) found e = absurd cc
of_names raw (Ok counts) (Err refusal) names found e = absurd cc
of_names raw (Err refusal) range names found e = absurd cc

of_raw : (raw : Raw) (found : Accepted) → document_of_raw raw ≡ Ok found → raw.version ≡ found.version
unfolding document_of_raw
of_raw raw found e = of_names raw (unless over_limit (overrun raw)) (refused_by out_of_range (ranges raw)) (refused_by repeated_name (name_lists raw)) found e

-- ---- the value, and the bytes

of_shaped : (d : Data) (shape : Result Raw (List PathStep)) (found : Accepted) → document_at d ≡ shape → documents.◌>>=◌ (refused_by bad_shape shape) document_of_raw ≡ Ok found → is_4_at d ≡ (found.version == 4)
of_shaped d (Ok raw) found shaped e = ap is_version_4 (of_shape d raw shaped) ∙ ap (λ (version : ℕ). version == 4) (of_raw raw found e)
of_shaped d (Err path) found shaped e = absurd cc

of_value : (d : Data) (found : Accepted) → document_of_value d ≡ Ok found → is_4_at d ≡ (found.version == 4)
unfolding document_of_value
of_value d found e = of_shaped d (document_at d) found refl e

of_json : (o : Option Data) (found : Accepted) → documents.◌>>=◌ (value_of o) document_of_value ≡ Ok found → is_4_in o ≡ (found.version == 4)
of_json None found e = absurd cc
of_json (Some d) found e = of_value d found e

-- a look at an accepted document finds version 4 exactly where its version is 4
pub of-version-4 : (bytes : List ℕ) (found : Accepted) → document bytes ≡ Ok found → is_of_version_4 bytes ≡ (found.version == 4)
unfolding document is_of_version_4
of-version-4 bytes found e = of_json (json bytes) found e
