-- The table of keys of each object, and the kind of each list's items.
use Rattle.std.specs.Prelude.{ℕ, ◌==◌, ◌||◌, true, false, List, [], ◌∷◌, Result, Ok, if◌then◌else◌, ⊤}
use Rattle.serde_json.specs.Data.{Data}
use Rattle.raw_document.specs.declared.key.DocKey.{DocKey}
use Rattle.raw_document.specs.declared.key.DocKey.TheVariants as keys
use Rattle.raw_document.specs.declared.doc_path.PathStep.{PathStep}
use Rattle.raw_document.specs.Reading.{◌>>=◌}
use Rattle.raw_document.specs.Shape.{field, optional, object}
use Rattle.fault_scan.specs.declared.kinds.Kind.{Kind}
use Rattle.fault_scan.specs.declared.kinds.Kind.TheVariants as kinds
use Rattle.fault_scan.specs.declared.kinds.Many.{Many}
use Rattle.fault_scan.specs.declared.kinds.Many.TheVariants as many
use Rattle.fault_scan.specs.declared.kinds.Form.{Form}
use Rattle.fault_scan.specs.declared.kinds.Form.TheVariants as forms
use Rattle.fault_scan.specs.declared.kinds.Field.{Field}
use Rattle.fault_scan.specs.Kinds.{passed, at}

-- ---- tables

abbrev pub needs : DocKey → Kind → Field
needs key kind = record { key = key; is_required = true; kind = kind }

abbrev pub may_have : DocKey → Kind → Field
may_have key kind = record { key = key; is_required = false; kind = kind }

unfoldable pub fields_of : ℕ → Form → List Field
fields_of version forms.Link =
    if version == 1 then
    needs keys.Name kinds.Text ∷ needs keys.From kinds.Text ∷ needs keys.To kinds.Text ∷
    needs keys.Capacity kinds.Whole ∷ []
    else
    needs keys.Name kinds.Text ∷ needs keys.From kinds.Text ∷ needs keys.To kinds.Text ∷
    needs keys.Capacity kinds.Whole ∷ may_have keys.Owner kinds.Text ∷ []
fields_of version forms.Path =
    needs keys.Weight kinds.Whole ∷ needs keys.Links (kinds.List many.Names) ∷ []
fields_of version forms.Task =
    if version == 1 || version == 2 then
    needs keys.Name kinds.Text ∷ needs keys.Reporter kinds.Text ∷ []
    else
    needs keys.Name kinds.Text ∷ needs keys.Reporter kinds.Text ∷
    may_have keys.Weight kinds.Whole ∷ []
fields_of version forms.Job =
    needs keys.Name kinds.Text ∷ may_have keys.Function (kinds.List many.Points) ∷
    needs keys.Task (kinds.List many.Points) ∷ needs keys.Tasks (kinds.List many.Tasks) ∷ []
fields_of version forms.User =
    needs keys.Name kinds.Text ∷ may_have keys.Function (kinds.List many.Points) ∷
    needs keys.Jobs (kinds.List many.Jobs) ∷ []
fields_of version forms.Group =
    needs keys.Name kinds.Text ∷ needs keys.From kinds.Text ∷ needs keys.To kinds.Text ∷
    may_have keys.Function (kinds.List many.Points) ∷
    needs keys.Paths (kinds.List many.PathGroups) ∷ needs keys.Users (kinds.List many.Users) ∷ []
fields_of version forms.Closing =
    needs keys.Link kinds.Text ∷ needs keys.Share kinds.Whole ∷ []
fields_of version forms.Dated =
    needs keys.Version kinds.Version ∷ needs keys.Top kinds.Whole ∷
    needs keys.Links (kinds.List many.Links) ∷ needs keys.Groups (kinds.List many.Groups) ∷
    needs keys.Reporters (kinds.List many.Names) ∷ needs keys.Script (kinds.List many.Entries) ∷
    may_have keys.Closings (kinds.List many.Closings) ∷ []
fields_of version forms.Undated =
    needs keys.Version kinds.Whole ∷ needs keys.Top kinds.Whole ∷
    needs keys.Links (kinds.List many.Links) ∷ needs keys.Groups (kinds.List many.Groups) ∷
    needs keys.Reporters (kinds.List many.Names) ∷ needs keys.Script (kinds.List many.Entries) ∷
    may_have keys.Closings (kinds.List many.Closings) ∷ []

-- the keys of both forms of an entry
abbrev pub entry_fields : List Field
entry_fields =
    needs keys.Reporter kinds.Text ∷ needs keys.Task kinds.Text ∷ needs keys.Demand kinds.Whole ∷
    needs keys.Link kinds.Text ∷ needs keys.Capacity kinds.Whole ∷ []

unfoldable pub fields_at : ℕ → Kind → List Field
fields_at version kinds.Any = []
fields_at version kinds.Text = []
fields_at version kinds.Whole = []
fields_at version kinds.Version = []
fields_at version kinds.Point = []
fields_at version (kinds.List items) = []
fields_at version (kinds.Object form) = fields_of version form
fields_at version kinds.Entry = entry_fields

abbrev pub item_of : Many → Kind
item_of many.Points = kinds.Point
item_of many.Names = kinds.Text
item_of many.Paths = kinds.Object forms.Path
item_of many.PathGroups = kinds.List many.Paths
item_of many.Links = kinds.Object forms.Link
item_of many.Groups = kinds.Object forms.Group
item_of many.Users = kinds.Object forms.User
item_of many.Jobs = kinds.Object forms.Job
item_of many.Tasks = kinds.Object forms.Task
item_of many.Entries = kinds.Entry
item_of many.Closings = kinds.Object forms.Closing

unfoldable pub item_at : Kind → Kind
item_at kinds.Any = kinds.Any
item_at kinds.Text = kinds.Any
item_at kinds.Whole = kinds.Any
item_at kinds.Version = kinds.Any
item_at kinds.Point = kinds.Whole
item_at (kinds.List items) = item_of items
item_at (kinds.Object form) = kinds.Any
item_at kinds.Entry = kinds.Any

-- ---- what a table says of an object

abbrev pub required_keys : List Field → List DocKey
required_keys [] = []
required_keys (f ∷ fs) = if f.is_required then f.key ∷ required_keys fs else required_keys fs

abbrev pub other_keys : List Field → List DocKey
other_keys [] = []
other_keys (f ∷ fs) = if f.is_required then other_keys fs else f.key ∷ other_keys fs

abbrev pub member_at : ℕ → Field → Data → Result ⊤ (List PathStep)
member_at version f d =
    if f.is_required then field f.key (at version f.kind) d
    else passed (optional f.key (at version f.kind) d)

-- nothing wrong with either, or the first fault
abbrev pub followed_by : Result ⊤ (List PathStep) → Result ⊤ (List PathStep) → Result ⊤ (List PathStep)
followed_by first rest = first >>= λ _. rest

-- the first fault among the members, in the order of the table
abbrev pub in_order : ℕ → List Field → Data → Result ⊤ (List PathStep)
in_order version [] d = Ok tt
in_order version (f ∷ fs) d = followed_by (member_at version f d) (in_order version fs d)

abbrev pub by_fields : ℕ → List Field → Data → Result ⊤ (List PathStep)
by_fields version fs d =
    followed_by (object (required_keys fs) (other_keys fs) d) (in_order version fs d)
