-- The table of an entry of the script.
use Rattle.std.proofs.Common.{◌≡◌, ℕ, ◌==◌, true, false, Bool, cond, None, List, [], ◌∷◌, get_or, refl, sym, ap, ap₂, ◌∙◌}
use Rattle.std.specs.Prelude.{◌||◌, is_some}
use Rattle.std.specs.List.{remove}
use Rattle.serde_json.specs.Data.{Members, object}
use Rattle.serde_json.specs.Find.{get_member}
use Rattle.raw_document.specs.declared.key.DocKey.TheVariants as keys
use Rattle.raw_document.specs.Words.{word}
use Rattle.fault_scan.specs.declared.kinds.Kind.{Kind}
use Rattle.fault_scan.specs.declared.kinds.Kind.TheVariants as kinds
use Rattle.fault_scan.specs.declared.kinds.Form.{Form}
use Rattle.fault_scan.specs.declared.kinds.Form.TheVariants as forms
use Rattle.fault_scan.specs.declared.kinds.Field.{Field}
use Rattle.fault_scan.specs.declared.seen.Slot.{Slot}
use Rattle.fault_scan.specs.Tables.{needs, may_have, entry_fields, fields_at, fields_of}
use Rattle.fault_scan.specs.Seen.{SlotIs, SlotsAre, fields_in, are_apart, names_link}
use Rattle.fault_scan.proofs.Slots.{seen_is}

-- ---- no key stands twice in a table

abbrev name : Field
name = needs keys.Name kinds.Text

abbrev from : Field
from = needs keys.From kinds.Text

abbrev to : Field
to = needs keys.To kinds.Text

abbrev capacity : Field
capacity = needs keys.Capacity kinds.Whole

abbrev owner : Field
owner = may_have keys.Owner kinds.Text

abbrev reporter : Field
reporter = needs keys.Reporter kinds.Text

abbrev weight : Field
weight = may_have keys.Weight kinds.Whole

form_apart : (version : ℕ) (form : Form) → are_apart (fields_of version form) ≡ true
unfolding fields_of word
form_apart version forms.Link = go (version == 1) where
  go : (b : Bool) → are_apart (cond b (name ∷ from ∷ to ∷ capacity ∷ []) (name ∷ from ∷ to ∷ capacity ∷ owner ∷ [])) ≡ true
  go true = refl
  go false = refl
form_apart version forms.Path = refl
form_apart version forms.Task = go (version == 1 || version == 2) where
  go : (b : Bool) → are_apart (cond b (name ∷ reporter ∷ []) (name ∷ reporter ∷ weight ∷ [])) ≡ true
  go true = refl
  go false = refl
form_apart version forms.Job = refl
form_apart version forms.User = refl
form_apart version forms.Group = refl
form_apart version forms.Closing = refl
form_apart version forms.Dated = refl
form_apart version forms.Undated = refl

pub entry_apart : are_apart entry_fields ≡ true
unfolding word
entry_apart = refl

pub fields_apart : (version : ℕ) (kind : Kind) → are_apart (fields_at version kind) ≡ true
unfolding fields_at
fields_apart version kinds.Any = refl
fields_apart version kinds.Text = refl
fields_apart version kinds.Whole = refl
fields_apart version kinds.Version = refl
fields_apart version kinds.Point = refl
fields_apart version (kinds.List items) = refl
fields_apart version (kinds.Object form) = form_apart version form
fields_apart version kinds.Entry = entry_apart

-- ---- the members that tell the form of an entry

pub link_named : (version : ℕ) (ms : Members) (ss : List Slot) (s : Slot) → fields_in ss ≡ entry_fields → SlotsAre version ms ss → (is_some (get_or ss 3 s).found || is_some (get_or ss 4 s).found) ≡ names_link (object ms)
link_named version ms [] s same are = absurd cc
link_named version ms (a ∷ []) s same are = absurd cc
link_named version ms (a ∷ b ∷ []) s same are = absurd cc
link_named version ms (a ∷ b ∷ c ∷ []) s same are = absurd cc
link_named version ms (a ∷ b ∷ c ∷ d ∷ []) s same are = absurd cc
link_named version ms (a ∷ b ∷ c ∷ d ∷ e ∷ rest) s same are =
    let fourth : d.field ≡ get_or entry_fields 3 d.field = ap (λ fs. get_or fs 3 d.field) same in
    let fifth : e.field ≡ get_or entry_fields 4 e.field = ap (λ fs. get_or fs 4 e.field) same in
    let there : (f : Field) (t : Slot) → t.field ≡ f → SlotIs version ms t → is_some t.found ≡ is_some (get_member (word f.key) ms) = λ f t is slot. sym (seen_is version t.field.kind t.found _ slot) ∙ ap (λ (g : Field). is_some (get_member (word g.key) ms)) is in
    ap₂ (λ x y. x || y) (there _ d fourth are.1.1.1.0) (there _ e fifth are.1.1.1.1.0)

pub any_slot : Slot
any_slot = record { field = record { key = keys.Version; is_required = false; kind = kinds.Any }; found = None }

-- the same where a form lacks one of them
pub less_apart : (are_apart (remove entry_fields 2) ≡ true) × (are_apart (remove entry_fields 4) ≡ true)
unfolding word
less_apart = (refl, refl)
