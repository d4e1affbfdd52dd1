-- A place among the nodes of one item is a place among those of all.
use Rattle.std.proofs.Common.{◌≡◌, ℕ, ◌+◌, ◌<◌, List, length, get_or, flat_map, take, sym, ap, ◌∙◌, arith}
use Rattle.std.proofs.lemmas.List.Concat.{get_or-flat_map}
use Rattle.std.proofs.lemmas.List.Folds.{length-flat_map-take}
use Rattle.tree_nodes.specs.Seen.{Seen, seen_at}

pub inside : {X : Type 0} (f : X → List Seen) (xs : List X) (i : ℕ) (x : X) (place past : ℕ) → i < length xs → x ≡ get_or xs i x
    → place ≡ length (flat_map f (take i xs)) + past → past < length (f x) → (place < length (flat_map f xs)) × (seen_at (flat_map f xs) place ≡ seen_at (f x) past)
inside f xs i x place past lt read is within =
    let same : length (f x) ≡ length (f (get_or xs i x)) = ap (λ y. length (f y)) read in
    let part = length-flat_map-take f xs i x lt in (
      omega (arith, part, same),
      ap (seen_at (flat_map f xs)) is ∙ get_or-flat_map f xs i past x _ lt (omega (arith, same)) ∙ ap (λ y. seen_at (f y) past) (sym read),
    )
