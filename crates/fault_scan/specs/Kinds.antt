-- What the shape says of a value of each kind, where nothing of it is kept.
use Rattle.std.specs.Prelude.{ℕ, ◌==◌, Bool, true, false, List, [], ◌∷◌, Option, Some, None, Result, Ok, Err, is_some, ⊤}
use Rattle.serde_json.specs.Data.{Data}
use Rattle.raw_document.specs.declared.key.DocKey.TheVariants as keys
use Rattle.raw_document.specs.declared.doc_path.PathStep.{PathStep}
use Rattle.raw_document.specs.Reading.{◌>>=◌, check}
use Rattle.raw_document.specs.Shape.{number_of, whole, text, point, function, field, optional, object, list_of}
use Rattle.raw_document.specs.Forms.{link_at, path_at, task_at, job_at, user_at, group_at, report_at, closing_at}
use Rattle.fault_scan.specs.declared.kinds.Kind.{Kind}
use Rattle.fault_scan.specs.declared.kinds.Kind.TheVariants as kinds
use Rattle.fault_scan.specs.declared.kinds.Many.{Many}
use Rattle.fault_scan.specs.declared.kinds.Many.TheVariants as many
use Rattle.fault_scan.specs.declared.kinds.Form.{Form}
use Rattle.fault_scan.specs.declared.kinds.Form.TheVariants as forms

-- nothing wrong, or the path of the first fault
abbrev pub passed : {A : Type 0} → Result A (List PathStep) → Result ⊤ (List PathStep)
passed (Ok x) = Ok tt
passed (Err path) = Err path

-- ---- the version

abbrev pub is_number : ℕ → Option ℕ → Bool
is_number version None = false
is_number version (Some n) = n == version

-- this version is given
unfoldable pub version_at : ℕ → Data → Result ⊤ (List PathStep)
version_at version d = check (is_number version (number_of d))

-- ---- lists, objects and the rest

unfoldable pub many_at : ℕ → Many → Data → Result ⊤ (List PathStep)
many_at version many.Points d = passed (function d)
many_at version many.Names d = passed (list_of text d)
many_at version many.Paths d = passed (list_of path_at d)
many_at version many.PathGroups d = passed (list_of (list_of path_at) d)
many_at version many.Links d = passed (list_of (link_at version) d)
many_at version many.Groups d = passed (list_of (group_at version) d)
many_at version many.Users d = passed (list_of (user_at version) d)
many_at version many.Jobs d = passed (list_of (job_at version) d)
many_at version many.Tasks d = passed (list_of (task_at version) d)
many_at version many.Entries d = passed (list_of (report_at version) d)
many_at version many.Closings d = passed (list_of closing_at d)

-- what stands behind the version of a document
abbrev pub rest_at : ℕ → Data → Result ⊤ (List PathStep)
rest_at version d = do
  top ← field keys.Top whole d
  links ← field keys.Links (list_of (link_at version)) d
  groups ← field keys.Groups (list_of (group_at version)) d
  reporters ← field keys.Reporters (list_of text) d
  script ← field keys.Script (list_of (report_at version)) d
  closings ← optional keys.Closings (list_of closing_at) d
  Ok tt

-- a document that is taken to be of this version, of which `read` says what is asked
unfoldable pub document_with : (Data → Result ⊤ (List PathStep)) → ℕ → Data
    → Result ⊤ (List PathStep)
document_with read version d = do
  object_ok ← object
      (keys.Version ∷ keys.Top ∷ keys.Links ∷ keys.Groups ∷ keys.Reporters ∷ keys.Script ∷ [])
      (keys.Closings ∷ []) d
  version_ok ← field keys.Version read d
  rest_at version d

abbrev pub any_whole : Data → Result ⊤ (List PathStep)
any_whole d = passed (whole d)

unfoldable pub form_at : ℕ → Form → Data → Result ⊤ (List PathStep)
form_at version forms.Link d = passed (link_at version d)
form_at version forms.Path d = passed (path_at d)
form_at version forms.Task d = passed (task_at version d)
form_at version forms.Job d = passed (job_at version d)
form_at version forms.User d = passed (user_at version d)
form_at version forms.Group d = passed (group_at version d)
form_at version forms.Closing d = passed (closing_at d)
form_at version forms.Dated d = document_with (version_at version) version d
form_at version forms.Undated d = document_with any_whole version d

-- the first fault of a value of the kind, in a document of the version
unfoldable pub at : ℕ → Kind → Data → Result ⊤ (List PathStep)
at version kinds.Any d = Ok tt
at version kinds.Text d = passed (text d)
at version kinds.Whole d = any_whole d
at version kinds.Version d = version_at version d
at version kinds.Point d = passed (point d)
at version (kinds.List items) d = many_at version items d
at version (kinds.Object form) d = form_at version form d
at version kinds.Entry d = passed (report_at version d)

-- ---- what a value that is no list and no object is

abbrev pub takes_text : Kind → Bool
takes_text kinds.Any = true
takes_text kinds.Text = true
takes_text kinds.Whole = false
takes_text kinds.Version = false
takes_text kinds.Point = false
takes_text (kinds.List items) = false
takes_text (kinds.Object form) = false
takes_text kinds.Entry = false

abbrev pub takes_number : ℕ → Kind → Option ℕ → Bool
takes_number version kinds.Any number = true
takes_number version kinds.Text number = false
takes_number version kinds.Whole number = is_some number
takes_number version kinds.Version number = is_number version number
takes_number version kinds.Point number = false
takes_number version (kinds.List items) number = false
takes_number version (kinds.Object form) number = false
takes_number version kinds.Entry number = false

abbrev pub takes_all : Kind → Bool
takes_all kinds.Any = true
takes_all kinds.Text = false
takes_all kinds.Whole = false
takes_all kinds.Version = false
takes_all kinds.Point = false
takes_all (kinds.List items) = false
takes_all (kinds.Object form) = false
takes_all kinds.Entry = false
