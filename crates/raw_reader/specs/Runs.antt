-- Runs of stretches, and what was read of them.
use Rattle.std.specs.Prelude.{◌≡◌, List, [], ◌∷◌, ◌++◌, Option, Some, None, map, ⊤}
use Rattle.std.specs.Global.{Vec}
use Rattle.raw_reader.specs.Stretches.{AreRead}
use Rattle.raw_reader.specs.declared.pieces.Piece.{Piece}
use Rattle.raw_reader.specs.declared.pieces.Stretch.{Stretch}
use Rattle.raw_reader.specs.declared.runs.Run.{Run}

-- the stretches of all runs, in their order
abbrev pub stretches_in : List Run → List Stretch
stretches_in [] = []
stretches_in (run ∷ more) = run.stretches.items ++ stretches_in more

-- what was read of the stretches of runs, one run behind the other
abbrev pub pieces_in : List (Vec (Vec Piece)) → List (Vec Piece)
pieces_in [] = []
pieces_in (part ∷ more) = part.items ++ pieces_in more

-- what was read of each stretch of a run, where anything was
abbrev pub IsRunRead : Run → Option (Vec (Vec Piece)) → Type 0
IsRunRead run None = ⊤
IsRunRead run (Some part) = AreRead run.stretches.items (map Some part.items)

-- the same of each run
abbrev pub AreRunsRead : List Run → List (Option (Vec (Vec Piece))) → Type 0
AreRunsRead [] [] = ⊤
AreRunsRead [] (r ∷ rs) = ⊥
AreRunsRead (run ∷ runs) [] = ⊥
AreRunsRead (run ∷ runs) (r ∷ rs) = IsRunRead run r × AreRunsRead runs rs

-- all runs were read, and these are the pieces of their stretches
abbrev pub AreAllPieces : List (Option (Vec (Vec Piece))) → List (Vec Piece) → Type 0
AreAllPieces found all =
    (parts : List (Vec (Vec Piece))) × (found ≡ map Some parts) × (all ≡ pieces_in parts)
