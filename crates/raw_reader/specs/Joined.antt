-- What was put together of a document's pieces.
use Rattle.std.specs.Prelude.{◌≡◌, ℕ, List, ◌∷◌, Some}
use Rattle.json.specs.Token.{Token, begin_object, begin_array, key}
use Rattle.serde_json.specs.Data.{Members, no_members}
use Rattle.raw_document.specs.declared.key.DocKey.TheVariants as keys
use Rattle.raw_document.specs.Words.{word}
use Rattle.raw_reader.specs.Slots.{DocumentHolds}
use Rattle.raw_reader.specs.Walks.{Amid, Within, object_members}
use Rattle.raw_reader.specs.Pieces.{member_depth, item_depth, group_read, report_read}
use Rattle.raw_reader.specs.declared.document.DocumentSlots.{DocumentSlots}
use Rattle.raw_reader.specs.declared.joined.OpenList.{OpenList}
use Rattle.raw_reader.specs.declared.joined.OpenList.TheVariants as lists
use Rattle.raw_reader.specs.declared.joined.Joined.{Joined}

-- The document's tokens from `start` on were read, and `now` are still to come.
abbrev pub StandsAt : ℕ → DocumentSlots → OpenList → List Token → List Token → Type 0
StandsAt version slots lists.Before start now =
    (now ≡ start) × DocumentHolds version slots no_members
StandsAt version slots lists.Closed start now =
    (inside : List Token) × (start ≡ begin_object ∷ inside)
    × Within member_depth (DocumentHolds version slots) inside now
StandsAt version slots (lists.Groups found) start now =
    (inside items : List Token) × (start ≡ begin_object ∷ inside)
    × Within member_depth (DocumentHolds version slots) inside
    (key (word keys.Groups) ∷ begin_array ∷ items)
    × Amid item_depth (group_read version) items found.items now
StandsAt version slots (lists.Script found) start now =
    (inside items : List Token) × (start ≡ begin_object ∷ inside)
    × Within member_depth (DocumentHolds version slots) inside
    (key (word keys.Script) ∷ begin_array ∷ items)
    × Amid item_depth (report_read version) items found.items now
StandsAt version slots lists.Over start now =
    (inside : List Token) × (start ≡ begin_object ∷ inside) × (found : Members)
    × DocumentHolds version slots found
    × (object_members member_depth inside ≡ Some (found, now))

abbrev pub IsJoined : ℕ → Joined → List Token → List Token → Type 0
IsJoined version joined start now = StandsAt version joined.slots joined.list start now
