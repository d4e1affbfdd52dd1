-- What passing over a value takes from the tokens, by the grammar of JSON.
use Rattle.std.specs.Prelude.{◌≡◌, ℕ, Bool, true, false, List, [], ◌∷◌, length, Option, Some, None}
use Rattle.json.specs.Token.{Token}
use Rattle.json.specs.Json.{items, members, value}
use Rattle.serde_json.specs.Data.{Data, Items, Members, no_members}
use Rattle.serde_json.specs.Read.{of_items, of_json, of_members, converted}
use Rattle.version_scan.specs.Version.{is_4_at}

-- a value was passed, whose data are such
abbrev pub Passes : ℕ → List Token → List Token → (Data → Type 0) → Type 0
Passes depth old new Such = (d : Data) × (converted of_json (value depth old) ≡ Some (d, new))
    × Such d

-- the items of an array that has been opened
abbrev pub items_in : ℕ → List Token → Option (Items × List Token)
items_in depth tokens = converted of_items (items (value depth) (length tokens) tokens)

-- the members of an object that has been opened
abbrev pub members_in : ℕ → List Token → Option (Members × List Token)
members_in depth tokens =
    converted (λ ms. of_members ms no_members) (members (value depth) (length tokens) tokens)

-- the value that was read is an object of version 4
abbrev pub is_4_read : Option (Data × List Token) → Bool
is_4_read None = false
is_4_read (Some read) = is_4_at read.0

-- the token opens an object
abbrev pub begins_object : Token → Bool
begins_object Token.begin_object = true
begins_object Token.end_object = false
begins_object Token.begin_array = false
begins_object Token.end_array = false
begins_object (Token.key s) = false
begins_object (Token.string s) = false
begins_object (Token.number s) = false
begins_object (Token.boolean b) = false
begins_object Token.null = false
begins_object Token.bad = false

-- an object comes first
abbrev pub opens_object : List Token → Bool
opens_object [] = false
opens_object (token ∷ tokens) = begins_object token
