-- A document whose version was taken to be this one, or none, has the fault of the definition.
use Rattle.std.proofs.Common.{◌≡◌, ℕ, ◌==◌, Bool, true, false, List, [], ◌∷◌, Option, Some, None, Result, Ok, Err, refl, sym, ap, ◌∙◌}
use Rattle.std.specs.Prelude.{⊤, unwrap_or}
use Rattle.std.specs.Str.{bytes_eq}
use Rattle.std.proofs.lemmas.Bool.{eqb-true, false≢true}
use Rattle.serde_json.specs.Data.{Data}
use Rattle.serde_json.specs.Find.{get}
use Rattle.raw_document.specs.declared.key.DocKey.{DocKey}
use Rattle.raw_document.specs.declared.key.DocKey.TheVariants as keys
use Rattle.raw_document.specs.declared.doc_path.PathStep.{PathStep}
use Rattle.raw_document.specs.declared.doc_path.PathStep.TheVariants.{Key}
use Rattle.raw_document.specs.declared.doc_path.Fault.{Fault}
use Rattle.raw_document.specs.declared.doc_path.Fault.TheVariants.{OutOfMemory, At}
use Rattle.raw_document.specs.Words.{word}
use Rattle.raw_document.specs.Raw.{Raw, Closing}
use Rattle.raw_document.specs.Reading.{◌>>=◌, under, or_fault, check, Fails}
use Rattle.raw_document.specs.Shape.{number_of, whole, text, field, optional, read_found, read_some, object as object_shape, list_of}
use Rattle.raw_document.specs.Forms.{link_at, group_at, report_at, closing_at, closings_at, document_at}
use Rattle.fault_scan.specs.Kinds.{passed, is_number, version_at, any_whole, rest_at, document_with}
use Rattle.fault_scan.specs.Faults.{begins_with_version, is_of_any_version, is_at_version, is_before_version}

-- ---- a reading whose values are not told

alike : {A B C : Type 0} (r : Result A (List PathStep)) (f : A → Result B (List PathStep)) (g : A → Result C (List PathStep)) → ((x : A) → passed (f x) ≡ passed (g x)) → passed (r >>= f) ≡ passed (r >>= g)
alike (Ok x) f g same = same x
alike (Err p) f g same = refl

passed_err : {A : Type 0} (r : Result A (List PathStep)) (path : List PathStep) → passed r ≡ Err path → r ≡ Err path
passed_err (Ok x) path e = absurd cc
passed_err (Err p) path e = ap Err cc

same_path : (p q : List PathStep) (r : Result ⊤ (List PathStep)) → r ≡ Err p → r ≡ Err q → p ≡ q
same_path p q r first second = cc

-- what is read of a document behind its version
raw_rest : ℕ → Data → Result Raw (List PathStep)
raw_rest version d = do
  top ← field keys.Top whole d
  links ← field keys.Links (list_of (link_at version)) d
  groups ← field keys.Groups (list_of (group_at version)) d
  reporters ← field keys.Reporters (list_of text) d
  script ← field keys.Script (list_of (report_at version)) d
  closings ← closings_at d
  Ok (record {
    version = version;
    top = top;
    links = links;
    groups = groups;
    reporters = reporters;
    script = script;
    closings = closings;
  })

rest_passed : (version : ℕ) (d : Data) → passed (raw_rest version d) ≡ passed (rest_at version d)
unfolding raw_rest
rest_passed version d =
    alike (field keys.Top whole d) _ _ λ top.
    alike (field keys.Links (list_of (link_at version)) d) _ _ λ links.
    alike (field keys.Groups (list_of (group_at version)) d) _ _ λ groups.
    alike (field keys.Reporters (list_of text) d) _ _ λ reporters.
    alike (field keys.Script (list_of (report_at version)) d) _ _ λ script.
    last (optional keys.Closings (list_of closing_at) d) _ where
      last : (r : Result (Option (List Closing)) (List PathStep)) (raw : List Closing → Raw) → passed ((r >>= λ closings. Ok (unwrap_or closings [])) >>= λ closings. Ok (raw closings)) ≡ passed (r >>= λ closings. Ok (tt {0}))
      last (Ok x) raw = refl
      last (Err p) raw = refl

rest_fails : (version : ℕ) (d : Data) (path : List PathStep) → rest_at version d ≡ Err path → raw_rest version d ≡ Err path
rest_fails version d path e = passed_err (raw_rest version d) path (rest_passed version d ∙ ap passed e)

-- ---- a document of a version

at_version : begins_with_version (Key keys.Version ∷ []) ≡ true
unfolding word
at_version = refl

not_there : (path : List PathStep) (r : Result ⊤ (List PathStep)) → r ≡ Err (Key keys.Version ∷ []) → r ≡ Err path → begins_with_version path ≡ false → ⊥
not_there path r here e elsewhere = false≢true (sym elsewhere ∙ ap begins_with_version (sym (same_path (Key keys.Version ∷ []) path r here e)) ∙ at_version)

dated : (version : ℕ) (d : Data) (path : List PathStep) → document_with (version_at version) version d ≡ Err path → begins_with_version path ≡ false → document_at d ≡ Err path
unfolding document_with document_at field version_at whole raw_rest
dated version d path fails elsewhere = go (object_shape (keys.Version ∷ keys.Top ∷ keys.Links ∷ keys.Groups ∷ keys.Reporters ∷ keys.Script ∷ []) (keys.Closings ∷ []) d) fails where
  Rest : ℕ → Result Raw (List PathStep)
  Rest n = raw_rest n d

  by_match : (n : ℕ) (b : Bool) → n == version ≡ b → (under (Key keys.Version) (check b) >>= λ ok. rest_at version d) ≡ Err path → Rest n ≡ Err path
  by_match n true same e = ap (λ m. raw_rest m d) (eqb-true n version same) ∙ rest_fails version d path e
  by_match n false apart e = absurd (not_there path (Err (Key keys.Version ∷ [])) refl e elsewhere)

  by_number : (o : Option ℕ) → (under (Key keys.Version) (check (is_number version o)) >>= λ ok. rest_at version d) ≡ Err path → (under (Key keys.Version) (or_fault o) >>= Rest) ≡ Err path
  by_number None e = absurd (not_there path (Err (Key keys.Version ∷ [])) refl e elsewhere)
  by_number (Some n) e = by_match n (n == version) refl e

  by_member : (o : Option Data) → (under (Key keys.Version) (read_found (λ e. check (is_number version (number_of e))) o) >>= λ ok. rest_at version d) ≡ Err path → (under (Key keys.Version) (read_found (λ e. or_fault (number_of e)) o) >>= Rest) ≡ Err path
  by_member None e = absurd (not_there path (Err (Key keys.Version ∷ [])) refl e elsewhere)
  by_member (Some v) e = by_number (number_of v) e

  go : (r : Result ⊤ (List PathStep)) → (r >>= λ object_ok. (under (Key keys.Version) (read_found (λ e. check (is_number version (number_of e))) (get (word keys.Version) d)) >>= λ ok. rest_at version d)) ≡ Err path
      → (r >>= λ object_ok. (under (Key keys.Version) (read_found (λ e. or_fault (number_of e)) (get (word keys.Version) d)) >>= Rest)) ≡ Err path
  go (Err p) e = ap Err (same_path p path (Err p) refl e)
  go (Ok u) e = by_member (get (word keys.Version) d) e

pub dated_fails : (version : ℕ) (d : Data) (fault : Fault) → Fails fault (document_with (version_at version) version d) → is_at_version fault ≡ false → Fails fault (document_at d)
dated_fails version d OutOfMemory fails elsewhere = tt
dated_fails version d (At path) fails elsewhere = dated version d path.steps.items fails elsewhere

-- ---- a document whose version is no whole number

behind : {A : Type 0} (path : List PathStep) (key : DocKey) → bytes_eq (word key) (word keys.Version) ≡ false → is_of_any_version path ≡ true → (r : Result A (List PathStep)) (f : A → Result ⊤ (List PathStep)) → (under (Key key) r >>= f) ≡ Err path
    → ((x : A) → f x ≡ Err path → ⊥) → ⊥
behind path key apart first (Ok x) f e more = more x e
behind path key apart first (Err p) f e more = false≢true (sym apart ∙ ap is_of_any_version (same_path (Key key ∷ p) path (Err (Key key ∷ p)) refl e) ∙ first)

not_behind : (version : ℕ) (d : Data) (path : List PathStep) → is_of_any_version path ≡ true → rest_at version d ≡ Err path → ⊥
unfolding field optional word
not_behind version d path first e =
    behind path keys.Top refl first (read_found whole (get (word keys.Top) d)) _ e λ top e2.
    behind path keys.Links refl first (read_found (list_of (link_at version)) (get (word keys.Links) d)) _ e2 λ links e3.
    behind path keys.Groups refl first (read_found (list_of (group_at version)) (get (word keys.Groups) d)) _ e3 λ groups e4.
    behind path keys.Reporters refl first (read_found (list_of text) (get (word keys.Reporters) d)) _ e4 λ reporters e5.
    behind path keys.Script refl first (read_found (list_of (report_at version)) (get (word keys.Script) d)) _ e5 λ script e6.
    behind path keys.Closings refl first (read_some (list_of closing_at) (get (word keys.Closings) d)) _ e6 λ closings e7. never path e7 where
      never : (p : List PathStep) → Ok (tt {0}) ≡ Err p → ⊥
      never p e = absurd cc

undated : (d : Data) (path : List PathStep) → document_with any_whole 0 d ≡ Err path → is_of_any_version path ≡ true → document_at d ≡ Err path
unfolding document_with document_at field raw_rest
undated d path fails first = go (object_shape (keys.Version ∷ keys.Top ∷ keys.Links ∷ keys.Groups ∷ keys.Reporters ∷ keys.Script ∷ []) (keys.Closings ∷ []) d) fails where
  Rest : ℕ → Result Raw (List PathStep)
  Rest n = raw_rest n d

  by_read : (r : Result ℕ (List PathStep)) → (under (Key keys.Version) (passed r) >>= λ ok. rest_at 0 d) ≡ Err path → (under (Key keys.Version) r >>= Rest) ≡ Err path
  by_read (Err p) e = ap Err (same_path (Key keys.Version ∷ p) path (Err (Key keys.Version ∷ p)) refl e)
  by_read (Ok n) e = absurd (not_behind 0 d path first e)

  by_member : (o : Option Data) → (under (Key keys.Version) (read_found any_whole o) >>= λ ok. rest_at 0 d) ≡ Err path → (under (Key keys.Version) (read_found whole o) >>= Rest) ≡ Err path
  by_member None e = ap Err (same_path (Key keys.Version ∷ []) path (Err (Key keys.Version ∷ [])) refl e)
  by_member (Some v) e = by_read (whole v) e

  go : (r : Result ⊤ (List PathStep)) → (r >>= λ object_ok. (under (Key keys.Version) (read_found any_whole (get (word keys.Version) d)) >>= λ ok. rest_at 0 d)) ≡ Err path
      → (r >>= λ object_ok. (under (Key keys.Version) (read_found whole (get (word keys.Version) d)) >>= Rest)) ≡ Err path
  go (Err p) e = ap Err (same_path p path (Err p) refl e)
  go (Ok u) e = by_member (get (word keys.Version) d) e

pub undated_fails : (d : Data) (fault : Fault) → Fails fault (document_with any_whole 0 d) → is_before_version fault ≡ true → Fails fault (document_at d)
undated_fails d OutOfMemory fails first = tt
undated_fails d (At path) fails first = undated d path.steps.items fails first
