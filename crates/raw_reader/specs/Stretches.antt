-- How a text is cut into stretches.
use Rattle.std.specs.Prelude.{◌≡◌, ℕ, List, [], ◌∷◌, ◌++◌, Option, Some, None, ⊤}
use Rattle.std.specs.Global.{Vec}
use Rattle.json.specs.Token.{Token}
use Rattle.json.specs.Lex.{tokens}
use Rattle.raw_reader.specs.Pieces.{PiecesTake, BeginsAt}
use Rattle.raw_reader.specs.declared.pieces.Place.{Place}
use Rattle.raw_reader.specs.declared.pieces.Place.TheVariants as places
use Rattle.raw_reader.specs.declared.pieces.Piece.{Piece}
use Rattle.raw_reader.specs.declared.pieces.Stretch.{Stretch}

abbrev pub IsInList : Place → Type 0
IsInList places.Outside = ⊥
IsInList places.Members = ⊥
IsInList places.Groups = ⊤
IsInList places.Script = ⊤

-- The text is that of the front, which ends in a closing brace (125), of a comma (44), and of what
-- is behind.
abbrev pub IsCut : List ℕ → List ℕ → List ℕ → Type 0
IsCut text front behind =
    (before : List ℕ) × (front ≡ before ++ 125 ∷ []) × (text ≡ front ++ 44 ∷ behind)

-- these stretches of a document of this version, cut at commas behind closing braces, are the text
abbrev pub AreBehind : ℕ → List ℕ → List Stretch → Type 0
AreBehind version text [] = ⊥
AreBehind version text (s ∷ []) = (s.version ≡ version) × (s.text.now ≡ text)
AreBehind version text (s ∷ t ∷ more) =
    (s.version ≡ version) × (behind : List ℕ) × IsCut text s.text.now behind × IsInList t.place
    × AreBehind version behind (t ∷ more)

-- the same of the first one on, which begins with the document
abbrev pub AreStretches : ℕ → List ℕ → List Stretch → Type 0
AreStretches version text [] = ⊥
AreStretches version text (s ∷ more) = (s.place ≡ places.Outside) × AreBehind version text (s ∷ more)

-- what was read of a stretch, where anything was
abbrev pub IsRead : Stretch → Option (Vec Piece) → Type 0
IsRead s None = ⊤
IsRead s (Some ps) =
    PiecesTake s.version ps.items (tokens s.text.now) [] × BeginsAt s.place (tokens s.text.now)

-- the same of each
abbrev pub AreRead : List Stretch → List (Option (Vec Piece)) → Type 0
AreRead [] [] = ⊤
AreRead [] (r ∷ rs) = ⊥
AreRead (s ∷ ss) [] = ⊥
AreRead (s ∷ ss) (r ∷ rs) = IsRead s r × AreRead ss rs

-- the tokens are those that these pieces took, one list after the other
abbrev pub AllTake : ℕ → List (Vec Piece) → List Token → Type 0
AllTake version [] old = old ≡ []
AllTake version (ps ∷ more) old =
    (part rest : List Token) × (old ≡ part ++ rest) × PiecesTake version ps.items part []
    × AllTake version more rest
