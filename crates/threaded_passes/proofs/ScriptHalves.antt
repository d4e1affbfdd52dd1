-- The numbers of a script in two parts, each found by itself.
use Rattle.std.proofs.Common.{◌≡◌, ℕ, suc, ◌+◌, ◌≤◌, List, [], ◌∷◌, ◌++◌, length, map, take, drop, Result, Ok, Err, refl, sym, ap, ap₂, subst, ◌∙◌, arith}
use Rattle.std.proofs.lemmas.List.{take-append-drop, length-map, length-take-le, take-map, drop-map}
use Rattle.raw_document.specs.declared.doc_path.PathStep.{PathStep}
use Rattle.raw_document.specs.declared.doc_path.PathStep.TheVariants.{Index}
use Rattle.raw_document.specs.declared.doc_path.Fault.{Fault}
use Rattle.raw_document.specs.Reading.{◌>>=◌, under, each, Fails}
use Rattle.doc_passes.proofs.EachFrom.{behind, behind_none}
use Rattle.threaded_passes.proofs.GroupHalves.{early_fails, late_fails}

-- the first items, and then the others from the place where they stand
module _ {A B : Type 0} (read : A → Result B (List PathStep)) where
  each-append : (place : ℕ) (first others : List A) → each read place (first ++ others) ≡ (each read place first >>= λ early. each read (place + length first) others >>= λ late. Ok (early ++ late))
  unfolding each
  each-append place [] others = ap (λ k. each read k others) (omega arith) ∙ behind_none (each read (place + 0) others)
  each-append place (item ∷ first) others = go (under (Index place) (read item)) (each-append (suc place) first others) where
    one : (x : B) (early : List B) (r : Result (List B) (List PathStep)) → ((r >>= λ late. Ok (early ++ late)) >>= λ xs. Ok (x ∷ xs)) ≡ (r >>= λ late. Ok (x ∷ early ++ late))
    one x early (Ok late) = refl
    one x early (Err path) = refl

    moved : (x : B) (k l : ℕ) → k ≡ l → (r : Result (List B) (List PathStep)) → ((r >>= λ early. each read k others >>= λ late. Ok (early ++ late)) >>= λ xs. Ok (x ∷ xs)) ≡ ((r >>= λ xs. Ok (x ∷ xs)) >>= λ early. each read l others >>= λ late. Ok (early ++ late))
    moved x k l same (Ok early) = one x early (each read k others) ∙ ap (λ place. each read place others >>= λ late. Ok (x ∷ early ++ late)) same
    moved x k l same (Err path) = refl

    go : (r : Result B (List PathStep)) → each read (suc place) (first ++ others) ≡ (each read (suc place) first >>= λ early. each read (suc place + length first) others >>= λ late. Ok (early ++ late))
        → (r >>= λ x. each read (suc place) (first ++ others) >>= λ xs. Ok (x ∷ xs)) ≡ ((r >>= λ x. each read (suc place) first >>= λ xs. Ok (x ∷ xs)) >>= λ early. each read (place + suc (length first)) others >>= λ late. Ok (early ++ late))
    go (Ok x) later = ap (λ r. r >>= λ xs. Ok (x ∷ xs)) later ∙ moved x (suc place + length first) (place + suc (length first)) (omega arith) (each read (suc place) first)
    go (Err path) later = refl

-- what two parts give is what the whole gives
module _ {V A B : Type 0} (view_of : V → A) (read : A → Result B (List PathStep)) (middle : ℕ) (items : List V) (within : middle ≤ length items) where
  abbrev whole : Result (List B) (List PathStep)
  whole = each read 0 (map view_of items)

  abbrev early : Result (List B) (List PathStep)
  early = each read 0 (map view_of (take middle items))

  abbrev late : Result (List B) (List PathStep)
  late = each read middle (map view_of (drop middle items))

  halves : whole ≡ (early >>= λ found. late >>= λ more. Ok (found ++ more))
  halves =
      sym (ap (each read 0) (ap₂ (λ a b. a ++ b) (sym (take-map view_of middle items)) (sym (drop-map view_of middle items)) ∙ take-append-drop middle (map view_of items)))
      ∙ each-append read 0 (map view_of (take middle items)) (map view_of (drop middle items))
      ∙ ap (λ place. early >>= λ found. each read place (map view_of (drop middle items)) >>= λ more. Ok (found ++ more)) at_middle where
        at_middle : 0 + length (map view_of (take middle items)) ≡ middle
        at_middle = let known : length (map view_of (take middle items)) ≡ middle = length-map (take middle items) view_of ∙ length-take-le middle items within in omega arith

  pub early_refused : (fault : Fault) → Fails fault early → Fails fault whole
  early_refused fault fails = subst (Fails fault) (sym halves) (early_fails (λ a b. a ++ b) early late fault fails)

  pub late_refused : (found : List B) (fault : Fault) → early ≡ Ok found → Fails fault late → Fails fault whole
  late_refused found fault is fails = subst (Fails fault) (sym halves) (late_fails (λ a b. a ++ b) early late found fault is fails)

  pub both_found : (found more all : List B) → early ≡ Ok found → late ≡ Ok more → all ≡ found ++ more → whole ≡ Ok all
  both_found found more all is also made = halves ∙ ap (λ r. r >>= λ a. late >>= λ b. Ok (a ++ b)) is ∙ ap (behind found) also ∙ ap Ok (sym made)
