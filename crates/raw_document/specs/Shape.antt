-- The shape of a document: each field read by its kind, in the order of the table.
use Rattle.std.specs.Prelude.{ℕ, ◌&&◌, ◌||◌, Bool, true, List, [], ◌∷◌, Option, Some, None, Result, Ok, Err, is_some, option_map, option_and_then, ⊤}
use Rattle.std.specs.List.{list_all, list_any}
use Rattle.std.specs.Str.{bytes_eq}
use Rattle.serde_json.specs.Data.{Data, Items, no_items, item, Members, no_members, member}
use Rattle.serde_json.specs.Find.{get, as_number, as_u64, as_str, as_array, as_object}
use Rattle.raw_document.specs.declared.key.DocKey.{DocKey}
use Rattle.raw_document.specs.declared.doc_path.PathStep.{PathStep}
use Rattle.raw_document.specs.declared.doc_path.PathStep.TheVariants.{Key}
use Rattle.raw_document.specs.Words.{word}
use Rattle.raw_document.specs.Reading.{◌>>=◌, under, or_fault, check, each}

-- ---- kinds

-- a number without a sign, a fraction or an exponent, of at most 64 bits
abbrev pub number_of : Data → Option ℕ
number_of d = option_and_then as_u64 (as_number d)

unfoldable pub whole : Data → Result ℕ (List PathStep)
whole d = or_fault (number_of d)

unfoldable pub text : Data → Result (List ℕ) (List PathStep)
text d = or_fault (as_str d)

-- exactly two whole numbers
unfoldable pub pair_of : Items → Option (ℕ × ℕ)
pair_of (item a (item b no_items)) =
    option_and_then (λ x. option_map (λ y. (x, y)) (number_of b)) (number_of a)
pair_of _ = None

-- a share and an amount; whatever is wrong with it is a fault of the point itself
unfoldable pub point : Data → Result (ℕ × ℕ) (List PathStep)
point d = or_fault (option_and_then pair_of (as_array d))

-- ---- members of an object

abbrev pub read_found : {A : Type 0} → (Data → Result A (List PathStep)) → Option Data
    → Result A (List PathStep)
read_found read None = Err []
read_found read (Some d) = read d

abbrev pub read_some : {A : Type 0} → (Data → Result A (List PathStep)) → Option Data
    → Result (Option A) (List PathStep)
read_some read None = Ok None
read_some read (Some d) = read d >>= λ x. Ok (Some x)

-- a required member
unfoldable pub field : {A : Type 0} → DocKey → (Data → Result A (List PathStep)) → Data
    → Result A (List PathStep)
field key read d = under (Key key) (read_found read (get (word key) d))

-- a member that may be absent
unfoldable pub optional : {A : Type 0} → DocKey → (Data → Result A (List PathStep)) → Data
    → Result (Option A) (List PathStep)
optional key read d = under (Key key) (read_some read (get (word key) d))

-- the name is one of the keys
unfoldable pub is_one_of : List DocKey → List ℕ → Bool
is_one_of keys name = list_any (λ key. bytes_eq (word key) name) keys

-- no member has another name
unfoldable pub has_only : List DocKey → List DocKey → Members → Bool
has_only required others no_members = true
has_only required others (member name d rest) =
    (is_one_of required name || is_one_of others name) && has_only required others rest

-- each key is there
unfoldable pub has_all : List DocKey → Data → Bool
has_all keys d = list_all (λ key. is_some (get (word key) d)) keys

-- an object with all required keys, and none outside the table
unfoldable pub object : List DocKey → List DocKey → Data → Result ⊤ (List PathStep)
object required others d =
    or_fault (as_object d)
    >>= λ members. check (has_all required d && has_only required others members)

-- ---- items of a list

abbrev pub list_items : Items → List Data
list_items no_items = []
list_items (item d rest) = d ∷ list_items rest

unfoldable pub list_of : {A : Type 0} → (Data → Result A (List PathStep)) → Data
    → Result (List A) (List PathStep)
list_of read d = or_fault (as_array d) >>= λ items. each read 0 (list_items items)

-- a function is a list of points
abbrev pub function : Data → Result (List (ℕ × ℕ)) (List PathStep)
function = list_of point
