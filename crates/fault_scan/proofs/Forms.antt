-- What the table of each object says is what its definition says.
use Rattle.std.proofs.Common.{◌≡◌, ℕ, ◌==◌, Bool, true, false, cond, List, [], ◌∷◌, Option, Some, None, Result, Ok, Err, refl, sym, ap, ◌∙◌}
use Rattle.std.specs.Prelude.{◌||◌, ◌&&◌, is_some, unwrap_or, ⊤}
use Rattle.std.specs.Str.{bytes_eq}
use Rattle.std.proofs.lemmas.Bool.{and_parts, false≢true}
use Rattle.serde_json.specs.Data.{Data, Num, null, boolean, number, string, array, object, Items, Members, no_members, member}
use Rattle.serde_json.specs.Find.{get, get_member, as_array, as_object, as_u64}
use Rattle.raw_document.specs.declared.key.DocKey.{DocKey}
use Rattle.raw_document.specs.declared.key.DocKey.TheVariants as keys
use Rattle.raw_document.specs.declared.doc_path.PathStep.{PathStep}
use Rattle.raw_document.specs.declared.doc_path.PathStep.TheVariants.{Key}
use Rattle.raw_document.specs.Words.{word}
use Rattle.raw_document.specs.Reading.{◌>>=◌, under, or_fault, each, check}
use Rattle.raw_document.specs.Shape.{whole, text, point, function, field, optional, read_found, read_some, is_one_of, has_all, has_only, object as object_shape, list_items, list_of}
use Rattle.raw_document.specs.Raw.{Link, Task}
use Rattle.raw_document.specs.Forms.{weight_at, link_at, path_at, task_at, job_at, user_at, group_at, report_at, demand_at, capacity_at, is_of_link, closing_at}
use Rattle.fault_scan.specs.declared.kinds.Kind.{Kind}
use Rattle.fault_scan.specs.declared.kinds.Kind.TheVariants as kinds
use Rattle.fault_scan.specs.declared.kinds.Many.{Many}
use Rattle.fault_scan.specs.declared.kinds.Many.TheVariants as many
use Rattle.fault_scan.specs.declared.kinds.Form.{Form}
use Rattle.fault_scan.specs.declared.kinds.Form.TheVariants as forms
use Rattle.fault_scan.specs.declared.kinds.Field.{Field}
use Rattle.fault_scan.specs.Kinds.{passed, any_whole, many_at, form_at, document_with, version_at, at, takes_text, takes_number, takes_all}
use Rattle.fault_scan.specs.Tables.{needs, may_have, item_of, fields_of, followed_by, by_fields}
use Rattle.fault_scan.proofs.Keys.{same_bytes, get_later}
use Rattle.fault_scan.proofs.Lists.{passed_itself, list_passed}

-- ---- a step of a definition, of which nothing is kept

field_passed : {A : Type 0} (key : DocKey) (read : Data → Result A (List PathStep)) (d : Data) → passed (field key read d) ≡ field key (λ e. passed (read e)) d
unfolding field
field_passed {A} key read d = go (get (word key) d) where
  told : (r : Result A (List PathStep)) → passed (under (Key key) r) ≡ under (Key key) (passed r)
  told (Ok x) = refl
  told (Err p) = refl

  go : (o : Option Data) → passed (under (Key key) (read_found read o)) ≡ under (Key key) (read_found (λ e. passed (read e)) o)
  go None = refl
  go (Some e) = told (read e)

optional_passed : {A : Type 0} (key : DocKey) (read : Data → Result A (List PathStep)) (d : Data) → passed (optional key read d) ≡ passed (optional key (λ e. passed (read e)) d)
unfolding optional
optional_passed {A} key read d = go (get (word key) d) where
  told : (r : Result A (List PathStep)) → passed (under (Key key) (r >>= λ x. Ok (Some x))) ≡ passed (under (Key key) (passed r >>= λ x. Ok (Some x)))
  told (Ok x) = refl
  told (Err p) = refl

  go : (o : Option Data) → passed (under (Key key) (read_some read o)) ≡ passed (under (Key key) (read_some (λ e. passed (read e)) o))
  go None = refl
  go (Some e) = told (read e)

module _ {B : Type 0} (rest : Result ⊤ (List PathStep)) where
  on : {A : Type 0} (r : Result A (List PathStep)) (f : A → Result B (List PathStep)) → ((x : A) → passed (f x) ≡ rest) → passed (r >>= f) ≡ followed_by (passed r) rest
  on (Ok x) f more = more x
  on (Err p) f more = refl

  -- a required member
  need : {A : Type 0} (key : DocKey) (read : Data → Result A (List PathStep)) (d : Data) (f : A → Result B (List PathStep)) → ((x : A) → passed (f x) ≡ rest)
      → passed (field key read d >>= f) ≡ followed_by (field key (λ e. passed (read e)) d) rest
  need key read d f more = on (field key read d) f more ∙ ap (λ r. followed_by r rest) (field_passed key read d)

  -- one that may be absent
  maybe : {A : Type 0} (key : DocKey) (read : Data → Result A (List PathStep)) (d : Data) (f : Option A → Result B (List PathStep)) → ((x : Option A) → passed (f x) ≡ rest)
      → passed (optional key read d >>= f) ≡ followed_by (passed (optional key (λ e. passed (read e)) d)) rest
  maybe key read d f more = on (optional key read d) f more ∙ ap (λ r. followed_by r rest) (optional_passed key read d)

  -- one of which nothing is kept
  need_fine : (key : DocKey) (read : Data → Result ⊤ (List PathStep)) (d : Data) (f : ⊤ → Result B (List PathStep)) → ((u : ⊤) → passed (f u) ≡ rest) → passed (field key read d >>= f) ≡ followed_by (field key read d) rest
  need_fine key read d f more = on (field key read d) f more ∙ ap (λ r. followed_by r rest) (passed_itself (field key read d))

  whole_object : (r : Result ⊤ (List PathStep)) (f : ⊤ → Result B (List PathStep)) → ((u : ⊤) → r ≡ Ok u → passed (f u) ≡ rest) → passed (r >>= f) ≡ followed_by r rest
  whole_object (Ok u) f more = more u refl
  whole_object (Err p) f more = refl

-- ---- the tables

path_by : (version : ℕ) (d : Data) → passed (path_at d) ≡ by_fields version (fields_of version forms.Path) d
unfolding path_at fields_of at many_at
path_by version d =
    whole_object _ (object_shape (keys.Weight ∷ keys.Links ∷ []) [] d) _ λ u _.
    need _ keys.Weight whole d _ λ weight.
    need _ keys.Links (list_of text) d _ λ links. refl

closing_by : (version : ℕ) (d : Data) → passed (closing_at d) ≡ by_fields version (fields_of version forms.Closing) d
unfolding closing_at fields_of at
closing_by version d =
    whole_object _ (object_shape (keys.Link ∷ keys.Share ∷ []) [] d) _ λ u _.
    need _ keys.Link text d _ λ link.
    need _ keys.Share whole d _ λ share. refl

job_by : (version : ℕ) (d : Data) → passed (job_at version d) ≡ by_fields version (fields_of version forms.Job) d
unfolding job_at fields_of at many_at
job_by version d =
    whole_object _ (object_shape (keys.Name ∷ keys.Task ∷ keys.Tasks ∷ []) (keys.Function ∷ []) d) _ λ u _.
    need _ keys.Name text d _ λ name.
    maybe _ keys.Function function d _ λ configured.
    need _ keys.Task function d _ λ task.
    need _ keys.Tasks (list_of (task_at version)) d _ λ tasks. refl

user_by : (version : ℕ) (d : Data) → passed (user_at version d) ≡ by_fields version (fields_of version forms.User) d
unfolding user_at fields_of at many_at
user_by version d =
    whole_object _ (object_shape (keys.Name ∷ keys.Jobs ∷ []) (keys.Function ∷ []) d) _ λ u _.
    need _ keys.Name text d _ λ name.
    maybe _ keys.Function function d _ λ configured.
    need _ keys.Jobs (list_of (job_at version)) d _ λ jobs. refl

group_by : (version : ℕ) (d : Data) → passed (group_at version d) ≡ by_fields version (fields_of version forms.Group) d
unfolding group_at fields_of at many_at
group_by version d =
    whole_object _ (object_shape (keys.Name ∷ keys.From ∷ keys.To ∷ keys.Paths ∷ keys.Users ∷ []) (keys.Function ∷ []) d) _ λ u _.
    need _ keys.Name text d _ λ name.
    need _ keys.From text d _ λ from.
    need _ keys.To text d _ λ to.
    maybe _ keys.Function function d _ λ configured.
    need _ keys.Paths (list_of (list_of path_at)) d _ λ path_groups.
    need _ keys.Users (list_of (user_at version)) d _ λ users. refl

-- ---- a key that a version does not know

known_absent : (required others : List DocKey) (key : DocKey) (members : Members) → (is_one_of required (word key) || is_one_of others (word key)) ≡ false → has_only required others members ≡ true → get_member (word key) members ≡ None
unfolding has_only is_one_of
known_absent required others key no_members apart only = refl
known_absent required others key (member name d rest) apart only = by (bytes_eq (word key) name) refl (known_absent required others key rest apart) where
  parts : ((is_one_of required name || is_one_of others name) ≡ true) × (has_only required others rest ≡ true)
  parts = and_parts (is_one_of required name || is_one_of others name) (has_only required others rest) only

  by : (b : Bool) → bytes_eq (word key) name ≡ b → (has_only required others rest ≡ true → get_member (word key) rest ≡ None) → get_member (word key) (member name d rest) ≡ None
  by true same more = absurd (false≢true (sym apart ∙ ap (λ (n : List ℕ). is_one_of required n || is_one_of others n) (same_bytes (word key) name same) ∙ parts.0))
  by false differs more = get_later (word key) name d rest differs ∙ more parts.1

-- an object that is whole lacks each key that its table lacks
lacks : (required others : List DocKey) (key : DocKey) (d : Data) (u : ⊤) → (is_one_of required (word key) || is_one_of others (word key)) ≡ false → object_shape required others d ≡ Ok u → get (word key) d ≡ None
unfolding object_shape
lacks required others key null u apart whole = refl
lacks required others key (boolean b) u apart whole = refl
lacks required others key (number n) u apart whole = refl
lacks required others key (string s) u apart whole = refl
lacks required others key (array items) u apart whole = refl
lacks required others key (object members) u apart whole = known_absent required others key members apart (only (has_all required (object members)) (has_only required others members) whole) where
  only : (a b : Bool) → check (a && b) ≡ Ok u → b ≡ true
  only true true e = refl
  only true false e = absurd cc
  only false b e = absurd cc

link_by : (version : ℕ) (d : Data) → passed (link_at version d) ≡ by_fields version (fields_of version forms.Link) d
unfolding link_at fields_of at optional word is_one_of
link_by version d = by (version == 1) where
  link : List ℕ → List ℕ → List ℕ → ℕ → Option (List ℕ) → Link
  link name from to capacity owner = record { name = name; from = from; to = to; capacity = capacity; owner = owner }

  by : (first : Bool) → passed (object_shape (keys.Name ∷ keys.From ∷ keys.To ∷ keys.Capacity ∷ []) (cond first [] (keys.Owner ∷ [])) d >>= λ object_ok. field keys.Name text d >>= λ name. field keys.From text d >>= λ from. field keys.To text d >>= λ to. field keys.Capacity whole d >>= λ capacity. optional keys.Owner text d >>= λ owner. Ok (link name from to capacity owner))
      ≡ by_fields version (cond first (needs keys.Name kinds.Text ∷ needs keys.From kinds.Text ∷ needs keys.To kinds.Text ∷ needs keys.Capacity kinds.Whole ∷ []) (needs keys.Name kinds.Text ∷ needs keys.From kinds.Text ∷ needs keys.To kinds.Text ∷ needs keys.Capacity kinds.Whole ∷ may_have keys.Owner kinds.Text ∷ [])) d
  by true =
      whole_object _ (object_shape (keys.Name ∷ keys.From ∷ keys.To ∷ keys.Capacity ∷ []) [] d) _ λ u whole_here.
      need _ keys.Name text d _ λ name.
      need _ keys.From text d _ λ from.
      need _ keys.To text d _ λ to.
      need _ keys.Capacity whole d _ λ capacity.
      rw (lacks (keys.Name ∷ keys.From ∷ keys.To ∷ keys.Capacity ∷ []) [] keys.Owner d u refl whole_here) refl
  by false =
      whole_object _ (object_shape (keys.Name ∷ keys.From ∷ keys.To ∷ keys.Capacity ∷ []) (keys.Owner ∷ []) d) _ λ u _.
      need _ keys.Name text d _ λ name.
      need _ keys.From text d _ λ from.
      need _ keys.To text d _ λ to.
      need _ keys.Capacity whole d _ λ capacity.
      maybe _ keys.Owner text d _ λ owner. refl

task_by : (version : ℕ) (d : Data) → passed (task_at version d) ≡ by_fields version (fields_of version forms.Task) d
unfolding task_at fields_of at optional word is_one_of
task_by version d = by (version == 1 || version == 2) where
  task : List ℕ → List ℕ → ℕ → Task
  task name reporter weight = record { name = name; reporter = reporter; weight = weight }

  weighed : (name reporter : List ℕ) (r : Result (Option ℕ) (List PathStep)) → passed ((r >>= λ w. Ok (unwrap_or w 1)) >>= λ weight. Ok (task name reporter weight)) ≡ passed (r >>= λ w. Ok w)
  weighed name reporter (Ok w) = refl
  weighed name reporter (Err p) = refl

  by : (early : Bool) → passed (object_shape (keys.Name ∷ keys.Reporter ∷ []) (cond early [] (keys.Weight ∷ [])) d >>= λ object_ok. field keys.Name text d >>= λ name. field keys.Reporter text d >>= λ reporter. weight_at d >>= λ weight. Ok (task name reporter weight))
      ≡ by_fields version (cond early (needs keys.Name kinds.Text ∷ needs keys.Reporter kinds.Text ∷ []) (needs keys.Name kinds.Text ∷ needs keys.Reporter kinds.Text ∷ may_have keys.Weight kinds.Whole ∷ [])) d
  by true =
      whole_object _ (object_shape (keys.Name ∷ keys.Reporter ∷ []) [] d) _ λ u whole_here.
      need _ keys.Name text d _ λ name.
      need _ keys.Reporter text d _ λ reporter.
      rw (lacks (keys.Name ∷ keys.Reporter ∷ []) [] keys.Weight d u refl whole_here) refl
  by false =
      whole_object _ (object_shape (keys.Name ∷ keys.Reporter ∷ []) (keys.Weight ∷ []) d) _ λ u _.
      need _ keys.Name text d _ λ name.
      need _ keys.Reporter text d _ λ reporter.
      weighed name reporter (optional keys.Weight whole d) ∙ maybe _ keys.Weight whole d (λ w. Ok w) λ w. refl

dated_by : (version : ℕ) (d : Data) → document_with (version_at version) version d ≡ by_fields version (fields_of version forms.Dated) d
unfolding document_with fields_of at many_at
dated_by version d =
    sym (passed_itself (document_with (version_at version) version d)) ∙
    (whole_object _ (object_shape (keys.Version ∷ keys.Top ∷ keys.Links ∷ keys.Groups ∷ keys.Reporters ∷ keys.Script ∷ []) (keys.Closings ∷ []) d) _ λ u _.
    need_fine _ keys.Version (version_at version) d _ λ version_ok.
    need _ keys.Top whole d _ λ top.
    need _ keys.Links (list_of (link_at version)) d _ λ links.
    need _ keys.Groups (list_of (group_at version)) d _ λ groups.
    need _ keys.Reporters (list_of text) d _ λ reporters.
    need _ keys.Script (list_of (report_at version)) d _ λ script.
    maybe _ keys.Closings (list_of closing_at) d _ λ closings. refl)

undated_by : (version : ℕ) (d : Data) → document_with (any_whole) version d ≡ by_fields version (fields_of version forms.Undated) d
unfolding document_with fields_of at many_at
undated_by version d =
    sym (passed_itself (document_with (any_whole) version d)) ∙
    (whole_object _ (object_shape (keys.Version ∷ keys.Top ∷ keys.Links ∷ keys.Groups ∷ keys.Reporters ∷ keys.Script ∷ []) (keys.Closings ∷ []) d) _ λ u _.
    need_fine _ keys.Version (any_whole) d _ λ version_ok.
    need _ keys.Top whole d _ λ top.
    need _ keys.Links (list_of (link_at version)) d _ λ links.
    need _ keys.Groups (list_of (group_at version)) d _ λ groups.
    need _ keys.Reporters (list_of text) d _ λ reporters.
    need _ keys.Script (list_of (report_at version)) d _ λ script.
    maybe _ keys.Closings (list_of closing_at) d _ λ closings. refl)

-- ---- all of them

pub form_by : (version : ℕ) (form : Form) (d : Data) → form_at version form d ≡ by_fields version (fields_of version form) d
unfolding form_at
form_by version forms.Link d = link_by version d
form_by version forms.Path d = path_by version d
form_by version forms.Task d = task_by version d
form_by version forms.Job d = job_by version d
form_by version forms.User d = user_by version d
form_by version forms.Group d = group_by version d
form_by version forms.Closing d = closing_by version d
form_by version forms.Dated d = dated_by version d
form_by version forms.Undated d = undated_by version d

-- ---- entries

abbrev pub demand_fields : List Field
demand_fields = needs keys.Reporter kinds.Text ∷ needs keys.Task kinds.Text ∷ needs keys.Demand kinds.Whole ∷ []

abbrev pub capacity_fields : List Field
capacity_fields = needs keys.Reporter kinds.Text ∷ needs keys.Link kinds.Text ∷ needs keys.Capacity kinds.Whole ∷ []

demand_by : (version : ℕ) (d : Data) → passed (demand_at d) ≡ by_fields version demand_fields d
unfolding demand_at at
demand_by version d =
    whole_object _ (object_shape (keys.Reporter ∷ keys.Task ∷ keys.Demand ∷ []) [] d) _ λ u _.
    need _ keys.Reporter text d _ λ reporter.
    need _ keys.Task text d _ λ task.
    need _ keys.Demand whole d _ λ demand. refl

capacity_by : (version : ℕ) (d : Data) → passed (capacity_at d) ≡ by_fields version capacity_fields d
unfolding capacity_at at
capacity_by version d =
    whole_object _ (object_shape (keys.Reporter ∷ keys.Link ∷ keys.Capacity ∷ []) [] d) _ λ u _.
    need _ keys.Reporter text d _ λ reporter.
    need _ keys.Link text d _ λ link.
    need _ keys.Capacity whole d _ λ capacity. refl

pub entry_by : (version : ℕ) (of_link : Bool) (d : Data) → is_of_link version d ≡ of_link → passed (report_at version d) ≡ by_fields version (cond of_link capacity_fields demand_fields) d
unfolding report_at
entry_by version true d is = rw is (capacity_by version d)
entry_by version false d is = rw is (demand_by version d)

-- ---- lists

pub many_by : (version : ℕ) (items : Many) (found : Items) → many_at version items (array found) ≡ passed (each (at version (item_of items)) 0 (list_items found))
unfolding many_at at form_at
many_by version many.Points found = list_passed point found
many_by version many.Names found = list_passed text found
many_by version many.Paths found = list_passed path_at found
many_by version many.PathGroups found = list_passed (list_of path_at) found
many_by version many.Links found = list_passed (link_at version) found
many_by version many.Groups found = list_passed (group_at version) found
many_by version many.Users found = list_passed (user_at version) found
many_by version many.Jobs found = list_passed (job_at version) found
many_by version many.Tasks found = list_passed (task_at version) found
many_by version many.Entries found = list_passed (report_at version) found
many_by version many.Closings found = list_passed closing_at found

-- ---- values that are no object, and values that are no list

no_object : (version : ℕ) (fs : List Field) (d : Data) → as_object d ≡ None → by_fields version fs d ≡ Err []
unfolding object_shape
no_object version fs d none = rw none

pub form_other : (version : ℕ) (form : Form) (d : Data) → as_object d ≡ None → form_at version form d ≡ Err []
form_other version form d none = form_by version form d ∙ no_object version (fields_of version form) d none

pub entry_other : (version : ℕ) (d : Data) → as_object d ≡ None → passed (report_at version d) ≡ Err []
entry_other version d none = entry_by version (is_of_link version d) d refl ∙ no_object version (cond (is_of_link version d) capacity_fields demand_fields) d none

no_list : {A : Type 0} (read : Data → Result A (List PathStep)) (d : Data) → as_array d ≡ None → passed (list_of read d) ≡ Err []
unfolding list_of
no_list read d none = rw none

pub many_other : (version : ℕ) (items : Many) (d : Data) → as_array d ≡ None → many_at version items d ≡ Err []
unfolding many_at
many_other version many.Points d none = no_list point d none
many_other version many.Names d none = no_list text d none
many_other version many.Paths d none = no_list path_at d none
many_other version many.PathGroups d none = no_list (list_of path_at) d none
many_other version many.Links d none = no_list (link_at version) d none
many_other version many.Groups d none = no_list (group_at version) d none
many_other version many.Users d none = no_list (user_at version) d none
many_other version many.Jobs d none = no_list (job_at version) d none
many_other version many.Tasks d none = no_list (task_at version) d none
many_other version many.Entries d none = no_list (report_at version) d none
many_other version many.Closings d none = no_list closing_at d none

-- ---- single tokens

pub text_at : (version : ℕ) (kind : Kind) (s : List ℕ) → at version kind (string s) ≡ check (takes_text kind)
unfolding at text whole point version_at
text_at version kinds.Any s = refl
text_at version kinds.Text s = refl
text_at version kinds.Whole s = refl
text_at version kinds.Version s = refl
text_at version kinds.Point s = refl
text_at version (kinds.List items) s = many_other version items (string s) refl
text_at version (kinds.Object form) s = form_other version form (string s) refl
text_at version kinds.Entry s = entry_other version (string s) refl

pub number_at : (version : ℕ) (kind : Kind) (n : Num) → at version kind (number n) ≡ check (takes_number version kind (as_u64 n))
unfolding at text whole point version_at
number_at version kinds.Any n = refl
number_at version kinds.Text n = refl
number_at version kinds.Whole n = by (as_u64 n) where
  by : (o : Option ℕ) → passed (or_fault o) ≡ check (is_some o)
  by None = refl
  by (Some x) = refl
number_at version kinds.Version n = refl
number_at version kinds.Point n = refl
number_at version (kinds.List items) n = many_other version items (number n) refl
number_at version (kinds.Object form) n = form_other version form (number n) refl
number_at version kinds.Entry n = entry_other version (number n) refl

pub boolean_at : (version : ℕ) (kind : Kind) (b : Bool) → at version kind (boolean b) ≡ check (takes_all kind)
unfolding at text whole point version_at
boolean_at version kinds.Any b = refl
boolean_at version kinds.Text b = refl
boolean_at version kinds.Whole b = refl
boolean_at version kinds.Version b = refl
boolean_at version kinds.Point b = refl
boolean_at version (kinds.List items) b = many_other version items (boolean b) refl
boolean_at version (kinds.Object form) b = form_other version form (boolean b) refl
boolean_at version kinds.Entry b = entry_other version (boolean b) refl

pub null_at : (version : ℕ) (kind : Kind) → at version kind null ≡ check (takes_all kind)
unfolding at text whole point version_at
null_at version kinds.Any = refl
null_at version kinds.Text = refl
null_at version kinds.Whole = refl
null_at version kinds.Version = refl
null_at version kinds.Point = refl
null_at version (kinds.List items) = many_other version items null refl
null_at version (kinds.Object form) = form_other version form null refl
null_at version kinds.Entry = entry_other version null refl
