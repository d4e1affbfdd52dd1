-- Lists that are put together of pieces, read piece by piece.
use Rattle.std.proofs.Common.{◌≡◌, ℕ, zero, suc, ◌+◌, ◌<◌, List, [], ◌∷◌, ◌++◌, length, map, flat_map, zip, get_or, drop, refl, sym, ap, ap₂, ◌∙◌, subst, arith, append_assoc}
use Rattle.std.proofs.lemmas.List.{length_push, length-append}
use Rattle.std.proofs.Math.Seq.{get_or-append_seam}
use Rattle.std.specs.List.{range_with_len}

-- numbers in a row, in two parts
range-split : (first rest : List ℕ) (from : ℕ) → first ++ rest ≡ range_with_len from (length (first ++ rest))
    → (first ≡ range_with_len from (length first)) × (rest ≡ range_with_len (from + length first) (length rest))
range-split [] rest from is =
    let same : from ≡ from + 0 = omega arith in
    (refl, subst (λ k. rest ≡ range_with_len k (length rest)) same is)
range-split (x ∷ first) rest from is =
    let here : x ≡ from = ap (λ numbers. get_or numbers 0 0) is in
    let parts = range-split first rest (from + 1) (ap (drop 1) is) in
    let same : from + 1 + length first ≡ from + suc (length first) = omega arith in
    (ap₂ (λ number numbers. number ∷ numbers) here parts.0, subst (λ k. rest ≡ range_with_len k (length rest)) same parts.1)

-- the piece that stands at its place
picked : (piece before later : List ℕ) → map (λ k. get_or (before ++ (piece ++ later)) k 0) (range_with_len (length before) (length piece)) ≡ piece
picked [] before later = refl
picked (x ∷ piece) before later =
    let rest : map (λ k. get_or ((before ++ x ∷ []) ++ (piece ++ later)) k 0) (range_with_len (length (before ++ x ∷ [])) (length piece)) ≡ piece = picked piece (before ++ x ∷ []) later in
    ap₂ (λ number numbers. number ∷ numbers) (get_or-append_seam before x (piece ++ later) 0) (rw (append_assoc before (x ∷ []) (piece ++ later), length_push before x) at rest)

module _ {X : Type 0} (piece : X × ℕ → List ℕ) (numbers : X → List ℕ) (same : (x : X) (y : ℕ) → length (piece (x, y)) ≡ length (numbers x)) where
  -- each item's piece stands at the item's numbers
  pub piece-at : (items : List X) (amounts before : List ℕ) → length amounts ≡ length items
      → flat_map numbers items ≡ range_with_len (length before) (length (flat_map numbers items))
      → (at : ℕ) (d : X) → at < length items
      → map (λ k. get_or (before ++ flat_map piece (zip items amounts)) k 0) (numbers (get_or items at d)) ≡ piece (get_or items at d, get_or amounts at 0)
  piece-at [] amounts before count are at d lt = absurd (omega arith)
  piece-at (x ∷ items) [] before count are at d lt = absurd (omega (arith, count))
  piece-at (x ∷ items) (y ∷ amounts) before count are zero d lt =
      let parts = range-split (numbers x) (flat_map numbers items) (length before) are in
      ap (map (λ k. get_or (before ++ (piece (x, y) ++ flat_map piece (zip items amounts))) k 0)) (parts.0 ∙ ap (range_with_len (length before)) (sym (same x y)))
      ∙ picked (piece (x, y)) before (flat_map piece (zip items amounts))
  piece-at (x ∷ items) (y ∷ amounts) before count are (suc at) d lt =
      let parts = range-split (numbers x) (flat_map numbers items) (length before) are in
      let from : length before + length (numbers x) ≡ length (before ++ piece (x, y)) = omega (arith, length-append before (piece (x, y)), same x y) in
      let rest : flat_map numbers items ≡ range_with_len (length (before ++ piece (x, y))) (length (flat_map numbers items)) =
      subst (λ k. flat_map numbers items ≡ range_with_len k (length (flat_map numbers items))) from parts.1 in
      let again : before ++ piece (x, y) ++ flat_map piece (zip items amounts) ≡ before ++ (piece (x, y) ++ flat_map piece (zip items amounts)) =
      append_assoc before (piece (x, y)) (flat_map piece (zip items amounts)) in
      ap (λ list. map (λ k. get_or list k 0) (numbers (get_or items at d))) (sym again)
      ∙ piece-at items amounts (before ++ piece (x, y)) (omega (arith, count)) rest at d (omega arith)
