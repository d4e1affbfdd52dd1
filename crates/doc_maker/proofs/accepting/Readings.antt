-- Lists that are read to their end: each item of a mapped list, and a state that goes over one.
use Rattle.std.proofs.Common.{◌≡◌, ℕ, suc, List, [], ◌∷◌, map, Result, Ok, refl}
use Rattle.std.specs.Prelude.{All, ⊤}
use Rattle.std.proofs.lemmas.List.Elements.{All-head, All-tail}
use Rattle.raw_document.specs.declared.doc_path.PathStep.{PathStep}
use Rattle.raw_document.specs.Reading.{check, each, check_each}

-- each item of a mapped list is read as told
pub each_mapped : {X A B : Type 0} (read : A → Result B (List PathStep)) (item : X → A) (out : X → B) (P : X → Type 0)
    → ((x : X) → P x → read (item x) ≡ Ok (out x)) → (place : ℕ) (xs : List X) → All P xs → each read place (map item xs) ≡ Ok (map out xs)
unfolding each
each_mapped read item out P reads place [] known = refl
each_mapped read item out P reads place (x ∷ xs) known =
    rw (reads x (All-head P x xs known), each_mapped read item out P reads (suc place) xs (All-tail P x xs known)) refl

-- a check passes each item of a mapped list
pub check_each_mapped : {X A : Type 0} (check : A → Result ⊤ (List PathStep)) (item : X → A) (P : X → Type 0)
    → ((x : X) → P x → check (item x) ≡ Ok tt) → (xs : List X) → All P xs → check_each check (map item xs) ≡ Ok tt
check_each_mapped check item P passes xs known = rw (each_mapped check item (λ _. tt) P passes 0 xs known) refl
