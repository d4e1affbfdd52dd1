-- Runs of stretches, and what was read of them.
use Rattle.std.proofs.Common.{◌≡◌, ℕ, suc, ◌<◌, length, slice_index_or, Bool, true, false, if◌then◌else◌, List, [], ◌∷◌, ◌++◌, map, take, drop, Option, Some, sym, ap, ◌∙◌, subst, append_assoc, append-nil, arith}
use Rattle.std.proofs.lemmas.List.{take-append-drop, map-append}
use Rattle.std.specs.Global.{Vec}
use Rattle.raw_reader.specs.Stretches.{AreRead}
use Rattle.raw_reader.specs.Runs.{stretches_in, pieces_in, IsRunRead, AreRunsRead}
use Rattle.raw_reader.specs.declared.pieces.Piece.{Piece}
use Rattle.raw_reader.specs.declared.pieces.Stretch.{Stretch}
use Rattle.raw_reader.specs.declared.runs.Run.{Run}

-- ---- stretches are dealt in their order

stretches_in-append : (runs : List Run) (run : Run) → stretches_in (runs ++ run ∷ []) ≡ stretches_in runs ++ run.stretches.items
stretches_in-append [] run = append-nil run.stretches.items
stretches_in-append (r ∷ runs) run = ap (λ ss. r.stretches.items ++ ss) (stretches_in-append runs run) ∙ sym (append_assoc r.stretches.items (stretches_in runs) run.stretches.items)

-- one run more, of the first of those that were left
pub dealt : (added : Bool) (runs new : List Run) (run : Run) (rest behind all : List Stretch) (n : ℕ) → added ≡ true → new ≡ (if added then runs ++ run ∷ [] else runs)
    → stretches_in runs ++ rest ≡ all → run.stretches.items ≡ take n rest → behind ≡ drop n rest → stretches_in new ++ behind ≡ all
dealt true runs new run rest behind all n pushed is was front back =
    let both = ap (λ ss. ss ++ behind) front ∙ ap (λ ss. take n rest ++ ss) back ∙ take-append-drop n rest in
    ap (λ rs. stretches_in rs ++ behind) is ∙ ap (λ ss. ss ++ behind) (stretches_in-append runs run) ∙ append_assoc (stretches_in runs) run.stretches.items behind ∙ ap (λ ss. stretches_in runs ++ ss) both ∙ was
dealt false runs new run rest behind all n pushed is was front back = absurd cc

-- ---- what was read of runs is what was read of their stretches

AreRead-append : (ss ts : List Stretch) (rs qs : List (Option (Vec Piece))) → AreRead ss rs → AreRead ts qs → AreRead (ss ++ ts) (rs ++ qs)
AreRead-append [] ts [] qs first second = second
AreRead-append [] ts (r ∷ rs) qs first second = absurd first
AreRead-append (s ∷ ss) ts [] qs first second = absurd first
AreRead-append (s ∷ ss) ts (r ∷ rs) qs first second = (first.0, AreRead-append ss ts rs qs first.1 second)

pub runs_read : (runs : List Run) (parts : List (Vec (Vec Piece))) → AreRunsRead runs (map Some parts) → AreRead (stretches_in runs) (map Some (pieces_in parts))
runs_read [] [] read = tt
runs_read [] (p ∷ ps) read = absurd read
runs_read (r ∷ rs) [] read = absurd read
runs_read (r ∷ rs) (p ∷ ps) read =
    subst (AreRead (r.stretches.items ++ stretches_in rs)) (sym (map-append Some p.items (pieces_in ps)))
    (AreRead-append r.stretches.items (stretches_in rs) (map Some p.items) (map Some (pieces_in ps)) read.0 (runs_read rs ps read.1))

-- ---- the pieces of one run behind the other

pieces_in-append : (parts : List (Vec (Vec Piece))) (part : Vec (Vec Piece)) → pieces_in (parts ++ part ∷ []) ≡ pieces_in parts ++ part.items
pieces_in-append [] part = append-nil part.items
pieces_in-append (p ∷ parts) part = ap (λ ps. p.items ++ ps) (pieces_in-append parts part) ∙ sym (append_assoc p.items (pieces_in parts) part.items)

-- one part more, the first of what was left
pub one_more : (added : Bool) (found left rest : List (Option (Vec (Vec Piece)))) (first : Option (Vec (Vec Piece))) (parts : List (Vec (Vec Piece))) (part : Vec (Vec Piece)) (all new : List (Vec Piece)) → added ≡ true
    → new ≡ (if added then all ++ part.items else all) → left ≡ first ∷ rest → first ≡ Some part → found ≡ map Some parts ++ left → all ≡ pieces_in parts
    → (ps : List (Vec (Vec Piece))) × (found ≡ map Some ps ++ rest) × (new ≡ pieces_in ps)
one_more true found left rest first parts part all new pushed is next some was before = (
  parts ++ part ∷ [],
  was ∙ ap (λ rs. map Some parts ++ rs) (next ∙ ap (λ r. r ∷ rest) some) ∙ sym (append_assoc (map Some parts) (Some part ∷ []) rest) ∙ ap (λ rs. rs ++ rest) (sym (map-append Some parts (part ∷ []))),
  is ∙ ap (λ ps. ps ++ part.items) before ∙ sym (pieces_in-append parts part),
)
one_more false found left rest first parts part all new pushed is next some was before = absurd cc

-- ---- what threads gave is what was read of the runs

pub are_read : (runs : List Run) (rs : List (Option (Vec (Vec Piece)))) → length rs ≡ length runs
    → ((i : ℕ) (run : Run) (r : Option (Vec (Vec Piece))) → i < length runs → IsRunRead (slice_index_or runs i run) (slice_index_or rs i r)) → AreRunsRead runs rs
are_read [] [] same each = tt
are_read [] (r ∷ rs) same each = absurd cc
are_read (run ∷ runs) [] same each = absurd cc
are_read (run ∷ runs) (r ∷ rs) same each = (each 0 run r (omega arith), are_read runs rs (omega (arith, same)) (λ i t q lt. each (suc i) t q (omega (arith, lt))))
