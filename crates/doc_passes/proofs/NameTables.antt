-- Names in a set of texts.
use Rattle.std.proofs.Common.{◌≡◌, ℕ, zero, suc, ◌+◌, Bool, true, false, cond, List, [], ◌∷◌, ◌++◌, map, Option, Some, None, Result, Ok, Err, Bor, refl, sym, ap, subst, ◌∙◌, arith}
use Rattle.std.specs.Prelude.{position, not, slice_get}
use Rattle.std.specs.List.{list_any, position_from, AllByRecursion, IsDistinct}
use Rattle.std.specs.Cmp.Lexicographic.{nat_list_eq_equiv}
use Rattle.std.specs.Str.{bytes_eq}
use Rattle.std.proofs.lemmas.List.{map_push}
use Rattle.std.proofs.lemmas.Iterator.Adapters.{position_from-zero}
use Rattle.raw_document.specs.declared.doc_path.Fault.{Fault}
use Rattle.raw_document.specs.declared.doc_path.Fault.TheVariants.{OutOfMemory, At}
use Rattle.indexmap.specs.IndexSet.{insert_key}
use Rattle.raw_document.specs.declared.doc_path.PathStep.{PathStep}
use Rattle.raw_document.specs.Reading.{or_fault, Fails, IsFaultAt}
use Rattle.raw_document.specs.Raw.{name_view}
use Rattle.doc_passes.specs.Names.{fresh, number_in}

-- the texts behind references
abbrev pub texts : List (Bor (List ℕ)) → List (List ℕ)
texts ks = map name_view ks

pub list_any-texts : (test : List ℕ → Bool) (ks : List (Bor (List ℕ))) → list_any test (texts ks) ≡ list_any (λ k. test k.now) ks
list_any-texts test [] = refl
list_any-texts test (k ∷ ks) = rw (list_any-texts test ks) refl

pub position_from-texts : (test : List ℕ → Bool) (i : ℕ) (ks : List (Bor (List ℕ))) → position_from test i (texts ks) ≡ position_from (λ k. test k.now) i ks
position_from-texts test i [] = refl
position_from-texts test i (k ∷ ks) = ap (λ o. cond (test k.now) (Some i) o) (position_from-texts test (i + 1) ks)

pub fresh_new : (ks after : List (Bor (List ℕ))) (name : Bor (List ℕ)) → list_any (λ k. bytes_eq name.now k.now) ks ≡ false → after ≡ insert_key (λ x y. bytes_eq x.now y.now) ks name → fresh (texts ks) name.now ≡ Ok (texts after)
unfolding fresh
fresh_new ks after name absent is =
    let gone : list_any (bytes_eq name.now) (texts ks) ≡ false = list_any-texts (bytes_eq name.now) ks ∙ absent in
    let pushed : after ≡ ks ++ name ∷ [] = is ∙ ap (λ b. cond b ks (ks ++ name ∷ [])) absent in
    ap (λ b. cond b (Err []) (Ok (texts ks ++ name.now ∷ []))) gone ∙ ap Ok (sym (ap texts pushed ∙ map_push name_view ks name))

pub fresh_old : (ks : List (Bor (List ℕ))) (name : List ℕ) → list_any (λ k. bytes_eq name k.now) ks ≡ true → fresh (texts ks) name ≡ Err []
unfolding fresh
fresh_old ks name there = ap (λ b. cond b (Err []) (Ok (texts ks ++ name ∷ []))) (list_any-texts (bytes_eq name) ks ∙ there)

pub number_is : (ks : List (Bor (List ℕ))) (name : List ℕ) (o : Option ℕ) → o ≡ position (λ k. bytes_eq name k.now) ks → number_in (texts ks) name ≡ or_fault o
unfolding number_in
number_is ks name o is = ap or_fault (position_from-zero (bytes_eq name) (texts ks) ∙ position_from-texts (bytes_eq name) 0 ks ∙ sym (position_from-zero (λ k. bytes_eq name k.now) ks) ∙ sym is)

pub absent_from : (is_new there : Bool) → is_new ≡ not there → is_new ≡ true → there ≡ false
absent_from is_new true e t = sym t ∙ e
absent_from is_new false e t = refl

pub there_from : (is_new there : Bool) → is_new ≡ not there → is_new ≡ false → there ≡ true
there_from is_new true e f = refl
there_from is_new false e f = sym f ∙ e

-- a fault here
pub fails_here : {A : Type 0} (q : Result A (List PathStep)) (fault : Fault) → q ≡ Err [] → IsFaultAt [] fault → Fails fault q
fails_here q OutOfMemory e is = tt
fails_here q (At path) e is = e ∙ ap Err (sym is)

-- ---- a name that is guessed to have a number

all_at : {A : Type 0} (P : A → Type 0) (xs : List A) (i : ℕ) (x : A) → AllByRecursion P xs → slice_get xs i ≡ Some x → P x
all_at P [] i x all at = absurd (let none : None ≡ Some x = at in cc)
all_at P (y ∷ ys) zero x all at = subst P (let is : y ≡ x = (let same : Some y ≡ Some x = at in cc) in is) all.0
all_at P (y ∷ ys) (suc i) x all at = all_at P ys i x all.1 at

abbrev are_equal : Bor (List ℕ) → Bor (List ℕ) → Bool
are_equal x y = bytes_eq x.now y.now

-- a name before one that is equal to it would be no other name
first_of_name : (name : List ℕ) (before found : Bor (List ℕ)) → are_equal before found ≡ false → bytes_eq found.now name ≡ true → bytes_eq name before.now ≡ false
first_of_name name before found apart same = by (bytes_eq name before.now) refl where
  by : (b : Bool) → bytes_eq name before.now ≡ b → b ≡ false
  by false e = refl
  by true e = absurd
      (let to_name : bytes_eq before.now name ≡ true = nat_list_eq_equiv.symm before.now name ∙ e in
      let to_found : bytes_eq before.now found.now ≡ true = nat_list_eq_equiv.congr before.now name found.now to_name ∙ nat_list_eq_equiv.symm name found.now ∙ same in
      let both : true ≡ false = sym to_found ∙ apart in cc)

placed_from : (name : List ℕ) (ks : List (Bor (List ℕ))) (start i : ℕ) (found : Bor (List ℕ)) → IsDistinct are_equal ks → slice_get ks i ≡ Some found → bytes_eq found.now name ≡ true → position_from (λ k. bytes_eq name k.now) start ks ≡ Some (start + i)
unfolding IsDistinct
placed_from name [] start i found distinct at same = absurd (let none : None ≡ Some found = at in cc)
placed_from name (k ∷ ks) start zero found distinct at same =
    let is : k ≡ found = (let some : Some k ≡ Some found = at in cc) in
    let here : bytes_eq name k.now ≡ true = subst (λ (x : Bor (List ℕ)). bytes_eq name x.now ≡ true) (sym is) (nat_list_eq_equiv.symm name found.now ∙ same) in
    ap (λ b. cond b (Some start) (position_from (λ k. bytes_eq name k.now) (start + 1) ks)) here
    ∙ ap Some (let end : start ≡ start + 0 = omega arith in end)
placed_from name (k ∷ ks) start (suc i) found distinct at same =
    ap (λ b. cond b (Some start) (position_from (λ k. bytes_eq name k.now) (start + 1) ks))
    (first_of_name name k found (all_at (λ y. are_equal k y ≡ false) ks i found distinct.0 at) same)
    ∙ placed_from name ks (start + 1) i found distinct.1 at same
    ∙ ap Some (let end : (start + 1) + i ≡ start + suc i = omega arith in end)

-- the name has the number at which it stands
pub number_at : (ks : List (Bor (List ℕ))) (name : List ℕ) (i : ℕ) (found : Bor (List ℕ)) → IsDistinct are_equal ks → slice_get ks i ≡ Some found → bytes_eq found.now name ≡ true → number_in (texts ks) name ≡ Ok i
number_at ks name i found distinct at same =
    number_is ks name (Some i) (sym (position_from-zero (λ k. bytes_eq name k.now) ks ∙ placed_from name ks 0 i found distinct at same ∙ ap Some (let end : 0 + i ≡ i = omega arith in end)))
