-- What the pieces of a document take from its tokens.
use Rattle.std.specs.Prelude.{◌≡◌, ℕ, Bool, true, false, List, [], ◌∷◌, ◌++◌, Ok, ⊤}
use Rattle.json.specs.Token.{Token, begin_object, end_object, begin_array, end_array, key}
use Rattle.serde_json.specs.Data.{Data}
use Rattle.token_parts.specs.Parts.{AllGood}
use Rattle.raw_document.specs.declared.key.DocKey.TheVariants as keys
use Rattle.raw_document.specs.declared.raw.RawGroup.{RawGroup}
use Rattle.raw_document.specs.declared.raw.RawReport.{RawReport}
use Rattle.raw_document.specs.Words.{word}
use Rattle.raw_document.specs.Shape.{whole, text}
use Rattle.raw_document.specs.Raw.{link_view, group_view, report_view, closing_view}
use Rattle.raw_document.specs.Forms.{link_at, group_at, report_at, closing_at}
use Rattle.raw_reader.specs.Takes.{Takes, ListRead}
use Rattle.raw_reader.specs.Walks.{Amid}
use Rattle.raw_reader.specs.declared.pieces.Place.{Place}
use Rattle.raw_reader.specs.declared.pieces.Place.TheVariants as places
use Rattle.raw_reader.specs.declared.pieces.Member.{Member}
use Rattle.raw_reader.specs.declared.pieces.Member.TheVariants as members
use Rattle.raw_reader.specs.declared.pieces.Piece.{Piece}
use Rattle.raw_reader.specs.declared.pieces.Piece.TheVariants as pieces

-- the depth to which values of members of a document may nest, and items of its lists
abbrev pub member_depth : ℕ
member_depth = 126

abbrev pub item_depth : ℕ
item_depth = 125

-- the member was read of a member of the key with these data
abbrev pub MemberIs : ℕ → Member → List ℕ → Data → Type 0
MemberIs version (members.Version n) k d = (k ≡ word keys.Version) × (whole d ≡ Ok n)
MemberIs version (members.Top n) k d = (k ≡ word keys.Top) × (whole d ≡ Ok n)
MemberIs version (members.Links links) k d =
    (k ≡ word keys.Links) × ListRead (λ d y. link_at version d ≡ Ok (link_view y)) d links.items
MemberIs version (members.Reporters names) k d =
    (k ≡ word keys.Reporters) × ListRead (λ d s. text d ≡ Ok s.now) d names.items
MemberIs version (members.Closings closings) k d =
    (k ≡ word keys.Closings) × ListRead (λ d y. closing_at d ≡ Ok (closing_view y)) d closings.items

-- These items were taken. Whatever follows, a walk that has come to the first of them comes to
-- behind the last.
abbrev pub ItemsTake : {T : Type 0} → (Data → T → Type 0) → List T → List Token → List Token → Type 0
ItemsTake IsRead xs old new =
    (AllGood new → AllGood old)
    × ((more start : List Token) (before : List _) → Amid item_depth IsRead start before (old ++ more)
    → Amid item_depth IsRead start (before ++ xs) (new ++ more))

abbrev pub group_read : ℕ → Data → RawGroup → Type 0
group_read version d group = group_at version d ≡ Ok (group_view group)

abbrev pub report_read : ℕ → Data → RawReport → Type 0
report_read version d report = report_at version d ≡ Ok (report_view report)

-- behind the items the list was closed, or all tokens were taken
abbrev pub Closes : Bool → List Token → List Token → Type 0
Closes true old new = old ≡ end_array ∷ new
Closes false old new = (old ≡ []) × (new ≡ [])

-- the piece was taken
abbrev pub PieceTakes : ℕ → Piece → List Token → List Token → Type 0
PieceTakes version pieces.Begin old new = old ≡ begin_object ∷ new
PieceTakes version (pieces.Member m) old new =
    (k : List ℕ) × (inside : List Token) × (old ≡ key k ∷ inside)
    × Takes member_depth inside new (λ d. MemberIs version m k d)
PieceTakes version pieces.OpenGroups old new = old ≡ key (word keys.Groups) ∷ begin_array ∷ new
PieceTakes version pieces.OpenScript old new = old ≡ key (word keys.Script) ∷ begin_array ∷ new
PieceTakes version (pieces.Groups items closed) old new =
    (behind : List Token) × ItemsTake (group_read version) items.items old behind
    × Closes closed behind new
PieceTakes version (pieces.Script items closed) old new =
    (behind : List Token) × ItemsTake (report_read version) items.items old behind
    × Closes closed behind new
PieceTakes version pieces.End old new = (old ≡ end_object ∷ []) × (new ≡ [])

-- the pieces were taken, one after the other
abbrev pub PiecesTake : ℕ → List Piece → List Token → List Token → Type 0
PiecesTake version [] old new = old ≡ new
PiecesTake version (p ∷ ps) old new =
    (between : List Token) × PieceTakes version p old between × PiecesTake version ps between new

-- at a place within a list the first token opens an item
abbrev pub BeginsAt : Place → List Token → Type 0
BeginsAt places.Outside ts = ⊤
BeginsAt places.Members ts = ⊤
BeginsAt places.Groups ts = (behind : List Token) × (ts ≡ begin_object ∷ behind)
BeginsAt places.Script ts = (behind : List Token) × (ts ≡ begin_object ∷ behind)
