-- A vector after its whole slice was lent out to be written.
use Rattle.std.proofs.Common.{◌≡◌, ℕ, ◌++◌, List, [], length, take, drop, append-nil, arith}
use Rattle.std.proofs.lemmas.List.{take_all, drop_all}

-- a slice of a vector that is written back whole
pub written_back : {X : Type 0} (n : ℕ) (new old : List X) → length new ≡ n → length old ≡ n → take n (new ++ drop (length new) old) ≡ new
written_back n new old size same =
    let none : drop (length new) old ≡ [] = drop_all (length new) old (omega arith) in
    rw none (simp append-nil (take_all n new (omega arith)))
