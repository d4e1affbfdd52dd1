-- Where a walk over the items of an array, or over the members of an object, stands.
use Rattle.std.specs.Prelude.{◌≡◌, ℕ, ◌≤◌, List, [], ◌∷◌, length, Option}
use Rattle.json.specs.Token.{Token}
use Rattle.json.specs.Json.{parse_map, items, members, value}
use Rattle.serde_json.specs.Data.{Data, Items, item, Members, no_members}
use Rattle.serde_json.specs.Read.{of_items, of_members, converted}
use Rattle.raw_reader.specs.Takes.{EachRead}

-- the items of an array that opens here
abbrev pub array_items : ℕ → List Token → Option (Items × List Token)
array_items depth ts = converted of_items (items (value depth) (length ts) ts)

abbrev pub items_before : List Data → Items → Items
items_before [] rest = rest
items_before (d ∷ ds) rest = item d (items_before ds rest)

-- Items were read from the first token of an array on; the others are still to come.
abbrev pub Amid : {T : Type 0} → ℕ → (Data → T → Type 0) → List Token → List T → List Token → Type 0
Amid depth IsRead start xs now =
    (n : ℕ) × (length now ≤ n) × (ds : List Data) × EachRead IsRead ds xs
    × (array_items depth start ≡ parse_map (items_before ds) (converted of_items (items (value depth) n now)))
    × (length now ≤ length start)

abbrev pub object_members : ℕ → List Token → Option (Members × List Token)
object_members depth ts = converted (λ ms. of_members ms no_members) (members (value depth) (length ts) ts)

-- Members were read from the first token of an object on; the others are still to come.
abbrev pub Within : ℕ → (Members → Type 0) → List Token → List Token → Type 0
Within depth Holds start now =
    (n : ℕ) × (length now ≤ n) × (found : Members) × Holds found
    × (object_members depth start ≡ converted (λ ms. of_members ms found) (members (value depth) n now))
    × (length now ≤ length start)
