-- Items of a list, one after the other.
use Rattle.std.proofs.Common.{◌≡◌, ℕ, suc, List, [], ◌∷◌, ◌++◌, length, Option, Some, None, option_map, option_and_then, Result, Ok, Err, refl, sym, ap, ◌∙◌, arith, ne_eqb}
use Rattle.std.specs.Prelude.{◌+◌, ◌==◌, ⊤}
use Rattle.serde_json.specs.Data.{Data, array, Items, no_items, item}
use Rattle.raw_document.specs.declared.doc_path.PathStep.{PathStep}
use Rattle.raw_document.specs.declared.doc_path.PathStep.TheVariants.{Index}
use Rattle.raw_document.specs.Reading.{◌>>=◌, under, or_fault, each, check}
use Rattle.raw_document.specs.Shape.{whole, point, pair_of, number_of, list_items, list_of}
use Rattle.fault_scan.specs.Kinds.{passed, any_whole}
use Rattle.fault_scan.specs.Tables.{followed_by}

-- what is kept of a reading that goes on is not told
pub passed_map : {A B : Type 0} (r : Result A (List PathStep)) (f : A → B) → passed (r >>= λ x. Ok (f x)) ≡ passed r
passed_map (Ok x) f = refl
passed_map (Err p) f = refl

pub passed_itself : (r : Result ⊤ (List PathStep)) → passed r ≡ r
passed_itself (Ok u) = refl
passed_itself (Err p) = refl

module _ (read : Data → Result ⊤ (List PathStep)) where
  pub each_push : (i : ℕ) (ds : List Data) (d : Data) → passed (each read i (ds ++ d ∷ [])) ≡ followed_by (passed (each read i ds)) (under (Index (i + length ds)) (read d))
  unfolding each
  each_push i [] d = passed_map (under (Index i) (read d)) (λ x. x ∷ []) ∙ passed_itself (under (Index i) (read d)) ∙ ap (λ n. under (Index n) (read d)) (omega arith)
  each_push i (e ∷ ds) d = go (under (Index i) (read e)) (each_push (suc i) ds d) where
    go : (r : Result ⊤ (List PathStep)) → passed (each read (suc i) (ds ++ d ∷ [])) ≡ followed_by (passed (each read (suc i) ds)) (under (Index (suc i + length ds)) (read d))
        → passed (r >>= λ x. each read (suc i) (ds ++ d ∷ []) >>= λ xs. Ok (x ∷ xs)) ≡ followed_by (passed (r >>= λ x. each read (suc i) ds >>= λ xs. Ok (x ∷ xs))) (under (Index (i + suc (length ds))) (read d))
    go (Err p) more = refl
    go (Ok x) more =
        let place : suc i + length ds ≡ i + suc (length ds) = omega arith in
        passed_map (each read (suc i) (ds ++ d ∷ [])) (λ xs. x ∷ xs) ∙ more
        ∙ ap (λ r. followed_by r (under (Index (suc i + length ds)) (read d))) (sym (passed_map (each read (suc i) ds) (λ xs. x ∷ xs)))
        ∙ ap (λ n. followed_by (passed (each read (suc i) ds >>= λ xs. Ok (x ∷ xs))) (under (Index n) (read d))) place

-- a list whose items are read, of which nothing is kept
module _ {A : Type 0} (read : Data → Result A (List PathStep)) where
  each_passed : (i : ℕ) (ds : List Data) → passed (each read i ds) ≡ passed (each (λ d. passed (read d)) i ds)
  unfolding each
  each_passed i [] = refl
  each_passed i (d ∷ ds) = go (read d) (each_passed (suc i) ds) where
    go : (r : Result A (List PathStep)) → passed (each read (suc i) ds) ≡ passed (each (λ d. passed (read d)) (suc i) ds)
        → passed (under (Index i) r >>= λ x. each read (suc i) ds >>= λ xs. Ok (x ∷ xs)) ≡ passed (under (Index i) (passed r) >>= λ x. each (λ d. passed (read d)) (suc i) ds >>= λ xs. Ok (x ∷ xs))
    go (Err p) more = refl
    go (Ok x) more = passed_map (each read (suc i) ds) (λ xs. x ∷ xs) ∙ more ∙ sym (passed_map (each (λ d. passed (read d)) (suc i) ds) (λ xs. tt ∷ xs))

  pub list_passed : (items : Items) → passed (list_of read (array items)) ≡ passed (each (λ d. passed (read d)) 0 (list_items items))
  unfolding list_of
  list_passed items = each_passed 0 (list_items items)

-- ---- points

-- what the numbers of a point are
abbrev pair : Option ℕ → Option ℕ → Result ⊤ (List PathStep)
pair x y = passed {A = ℕ × ℕ} (or_fault (option_and_then (λ share. option_map (λ amount. (share, amount)) y) x))

abbrev both : Option ℕ → Option ℕ → Result ⊤ (List PathStep)
both x y = passed (under (Index 0) (passed (or_fault x)) >>= λ u. (under (Index 1) (passed (or_fault y)) >>= λ v. Ok (v ∷ [])) >>= λ us. Ok (u ∷ us))

both_fine : (x y : Option ℕ) → both x y ≡ Ok tt → pair x y ≡ Ok tt
both_fine (Some x) (Some y) fine = refl
both_fine (Some x) None fine = absurd cc
both_fine None y fine = absurd cc

both_bad : (x y : Option ℕ) (path : List PathStep) → both x y ≡ Err path → pair x y ≡ Err []
both_bad (Some x) (Some y) path bad = absurd cc
both_bad (Some x) None path bad = refl
both_bad None y path bad = refl

pub point_fine : (items : Items) → passed (each any_whole 0 (list_items items)) ≡ Ok tt → passed (point (array items)) ≡ check (length (list_items items) == 2)
unfolding point pair_of each whole
point_fine no_items fine = refl
point_fine (item a no_items) fine = refl
point_fine (item a (item b no_items)) fine = both_fine (number_of a) (number_of b) fine
point_fine (item a (item b (item c rest))) fine = ap check (sym (ne_eqb (suc (suc (suc (length (list_items rest))))) 2 (λ e. omega (arith, e))))

pub point_bad : (items : Items) (path : List PathStep) → passed (each any_whole 0 (list_items items)) ≡ Err path → passed (point (array items)) ≡ Err []
unfolding point pair_of each whole
point_bad no_items path bad = refl
point_bad (item a no_items) path bad = refl
point_bad (item a (item b no_items)) path bad = both_bad (number_of a) (number_of b) path bad
point_bad (item a (item b (item c rest))) path bad = refl
