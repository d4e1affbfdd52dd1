-- The stretches of a text, and what was read of them.
use Rattle.std.proofs.Common.{◌≡◌, ℕ, Bool, true, false, List, [], ◌∷◌, ◌++◌, map, Some, refl, sym, ap, ◌∙◌, subst}
use Rattle.std.proofs.lemmas.List.{append-nil}
use Rattle.std.specs.Global.{Vec}
use Rattle.json.specs.Token.{Token, begin_object}
use Rattle.json.specs.Lex.{tokens}
use Rattle.token_parts.specs.Parts.{AllGood, First}
use Rattle.token_parts.proofs.Cut.{tokens-first}
use Rattle.raw_reader.specs.Pieces.{Closes, PieceTakes, PiecesTake, BeginsAt, member_depth}
use Rattle.raw_reader.specs.Stretches.{IsInList, IsCut, AreBehind, AreStretches, IsRead, AreRead, AllTake}
use Rattle.raw_reader.specs.declared.pieces.Place.{Place}
use Rattle.raw_reader.specs.declared.pieces.Place.TheVariants as places
use Rattle.raw_reader.specs.declared.pieces.Piece.{Piece}
use Rattle.raw_reader.specs.declared.pieces.Piece.TheVariants as pieces
use Rattle.raw_reader.specs.declared.pieces.Stretch.{Stretch}
use Rattle.raw_reader.proofs.Frames.{good_before}

-- ---- what was taken has no bad token

good_closing : (closed : Bool) (old new : List Token) → Closes closed old new → AllGood new → AllGood old
good_closing true old new e good = subst AllGood (sym e) (refl, good)
good_closing false old new e good = subst AllGood (sym e.0) tt

good_piece : (version : ℕ) (p : Piece) (old new : List Token) → PieceTakes version p old new → AllGood new → AllGood old
good_piece version pieces.Begin old new e good = subst AllGood (sym e) (refl, good)
good_piece version (pieces.Member m) old new h good = subst AllGood (sym h.2) (refl, good_before member_depth h.1 new h.3.0 h.3.1 good)
good_piece version pieces.OpenGroups old new e good = subst AllGood (sym e) (refl, (refl, good))
good_piece version pieces.OpenScript old new e good = subst AllGood (sym e) (refl, (refl, good))
good_piece version (pieces.Groups items closed) old new h good = h.1.0 (good_closing closed h.0 new h.2 good)
good_piece version (pieces.Script items closed) old new h good = h.1.0 (good_closing closed h.0 new h.2 good)
good_piece version pieces.End old new e good = subst AllGood (sym e.0) (refl, tt)

pub good_pieces : (version : ℕ) (ps : List Piece) (old new : List Token) → PiecesTake version ps old new → AllGood new → AllGood old
good_pieces version [] old new e good = subst AllGood (sym e) good
good_pieces version (p ∷ ps) old new h good = good_piece version p old h.0 h.1 (good_pieces version ps h.0 new h.2 good)

-- ---- the tokens of a text are those of its stretches

abbrev Opens : List Token → Type 0
Opens ts = (behind : List Token) × (ts ≡ begin_object ∷ behind)

opens_in_list : (place : Place) (ts : List Token) → IsInList place → BeginsAt place ts → Opens ts
opens_in_list places.Outside ts inside h = absurd inside
opens_in_list places.Members ts inside h = absurd inside
opens_in_list places.Groups ts inside h = h
opens_in_list places.Script ts inside h = h

begins_same : (a b : List Token) → a ≡ b → Opens b → Opens a
begins_same a b e h = (h.0, e ∙ h.1)

opens_before : (a b : List Token) → Opens a → Opens (a ++ b)
opens_before a b h = (h.0 ++ b, ap (λ ts. ts ++ b) h.1)

-- all that was read takes the tokens of the text, which open an item where the first stretch stands
-- in a list
abbrev Taken : ℕ → List ℕ → Place → List (Vec Piece) → Type 0
Taken version text place all = AllTake version all (tokens text) × (IsInList place → Opens (tokens text))

-- the last stretch
taken_last : (version : ℕ) (text : List ℕ) (s : Stretch) (ps : Vec Piece) → s.version ≡ version → s.text.now ≡ text → IsRead s (Some ps) → Taken version text s.place (ps ∷ [])
taken_last version text s ps same whole read =
    let is_text : tokens s.text.now ≡ tokens text = ap tokens whole in (
      (tokens text, [], sym (append-nil (tokens text)), subst (λ ts. PiecesTake version ps.items ts []) is_text (subst (λ v. PiecesTake v ps.items (tokens s.text.now) []) same read.0), refl),
      λ inside. subst Opens is_text (opens_in_list s.place (tokens s.text.now) inside read.1),
    )

-- a stretch in front of others
taken_before : (version : ℕ) (text behind : List ℕ) (s : Stretch) (place : Place) (ps : Vec Piece) (more : List (Vec Piece)) → s.version ≡ version → IsCut text s.text.now behind → IsInList place
    → IsRead s (Some ps) → Taken version behind place more → Taken version text s.place (ps ∷ more)
taken_before version text behind s place ps more same cut inside read others =
    let opened = others.1 inside in
    let good = good_pieces s.version ps.items (tokens s.text.now) [] read.0 tt in
    let first : First s.text.now = record { front = cut.0; closed = cut.1; good = good } in
    let whole : tokens text ≡ tokens s.text.now ++ tokens behind = ap tokens cut.2 ∙ tokens-first s.text.now behind first opened.0 opened.1 in (
      (tokens s.text.now, tokens behind, whole, subst (λ v. PiecesTake v ps.items (tokens s.text.now) []) same read.0, others.0),
      λ here. begins_same (tokens text) (tokens s.text.now ++ tokens behind) whole (opens_before (tokens s.text.now) (tokens behind) (opens_in_list s.place (tokens s.text.now) here read.1)),
    )

all_behind : (version : ℕ) (text : List ℕ) (s : Stretch) (ss : List Stretch) (all : List (Vec Piece)) → AreBehind version text (s ∷ ss) → AreRead (s ∷ ss) (map Some all) → Taken version text s.place all
all_behind version text s [] [] are read = absurd read
all_behind version text s [] (ps ∷ []) are read = taken_last version text s ps are.0 are.1 read.0
all_behind version text s [] (ps ∷ qs ∷ more) are read = absurd read.1
all_behind version text s (t ∷ ss) [] are read = absurd read
all_behind version text s (t ∷ ss) (ps ∷ more) are read =
    taken_before version text are.1 s t.place ps more are.0 are.2 are.3 read.0 (all_behind version are.1 t ss more are.4 read.1)

pub all_taken : (version : ℕ) (text : List ℕ) (ss : List Stretch) (all : List (Vec Piece)) → AreStretches version text ss → AreRead ss (map Some all) → AllTake version all (tokens text)
all_taken version text [] all are read = absurd are
all_taken version text (s ∷ ss) all are read = (all_behind version text s ss all are.1 read).0
