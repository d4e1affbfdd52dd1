-- Lists whose items are told the numbers of their first tasks: how long they are.
use Rattle.std.proofs.Common.{◌≡◌, ℕ, suc, ◌+◌, List, [], ◌∷◌, length, refl, ap}
use Rattle.tree_spec.specs.Numbering.{numbered}

pub length-numbered : {X Y : Type 0} (tasks : X → ℕ) (item : ℕ → X → Y) (first : ℕ) (xs : List X) → length (numbered tasks item first xs) ≡ length xs
unfolding numbered
length-numbered tasks item first [] = refl
length-numbered tasks item first (x ∷ xs) = ap suc (length-numbered tasks item (first + tasks x) xs)
