-- Lists of lists, as the code has them.
use Rattle.std.specs.Prelude.{List, Vec, map}
use Rattle.std.proofs.Common.{Global}

-- the lists in vectors
abbrev pub lists_of : {X : Type 0} → List (Vec X Global) → List (List X)
lists_of vectors = map (λ vector. vector.items) vectors
