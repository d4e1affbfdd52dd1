-- What reading takes from the tokens, by the grammar of JSON.
use Rattle.std.specs.Prelude.{◌≡◌, ℕ, List, [], ◌∷◌, Some}
use Rattle.json.specs.Token.{Token}
use Rattle.json.specs.Json.{value}
use Rattle.serde_json.specs.Data.{Data, array, Items, object, Members, put}
use Rattle.serde_json.specs.Read.{of_json, converted}
use Rattle.raw_document.specs.Shape.{list_items}

-- a value was taken, whose data are such
abbrev pub Takes : ℕ → List Token → List Token → (Data → Type 0) → Type 0
Takes depth old new Such = (d : Data) × (converted of_json (value depth old) ≡ Some (d, new))
    × Such d

-- each item was read so
abbrev pub EachRead : {T : Type 0} → (Data → T → Type 0) → List Data → List T → Type 0
EachRead IsRead [] [] = Unit {0}
EachRead IsRead [] (x ∷ xs) = ⊥
EachRead IsRead (d ∷ ds) [] = ⊥
EachRead IsRead (d ∷ ds) (x ∷ xs) = IsRead d x × EachRead IsRead ds xs

-- the data are a list, of which each item was read so
abbrev pub ListRead : {T : Type 0} → (Data → T → Type 0) → Data → List T → Type 0
ListRead IsRead d xs = (items : Items) × (d ≡ array items) × EachRead IsRead (list_items items) xs

-- The value of a member of this key was taken: what held of the members before holds, as it then
-- is, of them with this one.
abbrev pub TakesMember : ℕ → List ℕ → List Token → List Token → (Members → Type 0)
    → (Members → Type 0) → Type 0
TakesMember depth key old new Before After =
    Takes depth old new (λ d. (found : Members) → Before found → After (put key d found))

-- an object was taken, and this holds of its members
abbrev pub TakesObject : ℕ → List Token → List Token → (Members → Type 0) → Type 0
TakesObject depth old new Holds =
    Takes depth old new (λ d. (found : Members) × (d ≡ object found) × Holds found)
