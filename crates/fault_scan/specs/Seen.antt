-- What was seen of the members of an object, and of the items of a list.
use Rattle.std.specs.Prelude.{◌≡◌, ℕ, ◌&&◌, ◌||◌, Bool, true, not, List, [], ◌∷◌, map, length, Option, Some, None, is_none, is_some, if◌then◌else◌, Result, Ok, Err, ⊤}
use Rattle.std.specs.List.{list_any, position}
use Rattle.std.specs.Str.{bytes_eq}
use Rattle.serde_json.specs.Data.{Data, Members}
use Rattle.serde_json.specs.Find.{get, get_member}
use Rattle.raw_document.specs.declared.key.DocKey.TheVariants as keys
use Rattle.raw_document.specs.declared.doc_path.PathStep.{PathStep}
use Rattle.raw_document.specs.declared.doc_path.Fault.{Fault}
use Rattle.raw_document.specs.Words.{word}
use Rattle.raw_document.specs.Reading.{Gives, each}
use Rattle.raw_document.specs.Shape.{has_only}
use Rattle.fault_scan.specs.declared.kinds.Kind.{Kind}
use Rattle.fault_scan.specs.declared.kinds.Kind.TheVariants as kinds
use Rattle.fault_scan.specs.declared.kinds.Field.{Field}
use Rattle.fault_scan.specs.declared.seen.Slot.{Slot}
use Rattle.fault_scan.specs.declared.seen.Seen.{Seen}
use Rattle.fault_scan.specs.declared.items.Items.{Items}
use Rattle.fault_scan.specs.Kinds.{passed, at}
use Rattle.fault_scan.specs.Tables.{required_keys, other_keys}

-- what was found is the first fault
abbrev pub Tells : Result ⊤ Fault → Result ⊤ (List PathStep) → Type 0
Tells found read = Gives (λ nothing. nothing) found read

-- ---- members

-- what was found of the last member of a key, if there is one
abbrev pub Sees : ℕ → Kind → Option (Result ⊤ Fault) → Option Data → Type 0
Sees version kind None o = o ≡ None
Sees version kind (Some found) o = (d : Data) × (o ≡ Some d) × Tells found (at version kind d)

abbrev pub SlotIs : ℕ → Members → Slot → Type 0
SlotIs version found s =
    Sees version s.field.kind s.found (get_member (word s.field.key) found)

abbrev pub SlotsAre : ℕ → Members → List Slot → Type 0
SlotsAre version found [] = Unit {0}
SlotsAre version found (s ∷ ss) = SlotIs version found s × SlotsAre version found ss

-- nothing was found yet
abbrev pub empty_slot : Field → Slot
empty_slot f = record { field = f; found = None }

abbrev pub fields_in : List Slot → List Field
fields_in ss = map (λ s. s.field) ss

-- no other members than those of the fields
abbrev pub only : List Field → Members → Bool
only fs found = has_only (required_keys fs) (other_keys fs) found

-- the slots tell what these members are
abbrev pub Holds : ℕ → Seen → Members → Type 0
Holds version seen found =
    SlotsAre version found seen.slots.items
    × (only (fields_in seen.slots.items) found ≡ not seen.has_stranger)

-- ---- keys

abbrev pub is_named : List ℕ → Field → Bool
is_named key f = bytes_eq (word f.key) key

-- no two fields have the same key
abbrev pub are_apart : List Field → Bool
are_apart [] = true
are_apart (f ∷ fs) = not (list_any (is_named (word f.key)) fs) && are_apart fs

-- where the slot of a key stands
abbrev pub place_of : List ℕ → List Slot → Option ℕ
place_of key ss = position (λ s. is_named key s.field) ss

-- the kind of the member of a key, of which nothing is asked where the key is not in the table
abbrev pub kind_at : List ℕ → List Slot → Kind
kind_at key [] = kinds.Any
kind_at key (s ∷ ss) = if is_named key s.field then s.field.kind else kind_at key ss

-- a required member is not there
abbrev pub is_missing : Slot → Bool
is_missing s = s.field.is_required && is_none s.found

-- ---- items

-- the items are so many, and this is the first fault among them
abbrev pub ItemsAre : ℕ → Kind → Items → List Data → Type 0
ItemsAre version kind items ds =
    (length ds ≡ items.count) × Tells items.found (passed (each (at version kind) 0 ds))

-- the first one, if it is a fault, or else the second
abbrev pub earlier : Result ⊤ Fault → Result ⊤ Fault → Result ⊤ Fault
earlier (Ok u) second = second
earlier (Err fault) second = Err fault

-- an entry of the script has a member of a report of a capacity
abbrev pub names_link : Data → Bool
names_link d = is_some (get (word keys.Link) d) || is_some (get (word keys.Capacity) d)
