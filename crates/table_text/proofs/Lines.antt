-- Texts that grow by a line.
use Rattle.std.proofs.Common.{◌≡◌, ℕ, ◌+◌, List, [], ◌∷◌, ◌++◌, flat_map, sym, ◌∙◌, ap, arith}
use Rattle.std.proofs.lemmas.List.{flat_map_more, map-id}
use Rattle.std.proofs.lemmas.List.FromFn.{map-range_with_len_more}
use Rattle.bwe_specs.specs.Reports.{numbers}

-- the numbers below the next one
pub numbers-more : (n : ℕ) → numbers n ++ n ∷ [] ≡ numbers (n + 1)
numbers-more n =
    ap (λ list. list ++ n ∷ []) (sym (map-id (numbers n))) ∙ sym (map-range_with_len_more (λ x. x) 0 n n (omega arith)) ∙ map-id (numbers (n + 1))

-- with the line of one number more, the text has the lines of all numbers up to it
pub one_line_more : (line : ℕ → List ℕ) (before old text : List ℕ) (n : ℕ) → old ≡ before ++ flat_map line (numbers n) → text ≡ old ++ line n → text ≡ before ++ flat_map line (numbers (n + 1))
one_line_more line before old text n e f =
    f ∙ ap (λ list. list ++ line n) e ∙ flat_map_more line before (numbers n) n ∙ ap (λ list. before ++ flat_map line list) (numbers-more n)
