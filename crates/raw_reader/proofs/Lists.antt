-- What is read of a list is what its definition reads.
use Rattle.std.proofs.Common.{◌≡◌, ℕ, suc, List, [], ◌∷◌, map, Result, Ok, Option, Some, None, refl, ap, ◌∙◌}
use Rattle.std.specs.Prelude.{OnSome, IfSome, ⊤}
use Rattle.std.specs.Borrow.{Bor}
use Rattle.json.specs.Token as json
use Rattle.json.specs.Token.{Token}
use Rattle.json.specs.Json.{value}
use Rattle.serde_json.specs.Data.{Data, string, number, unsigned, Members, put}
use Rattle.serde_json.specs.Read.{of_json, converted, number_of}
use Rattle.raw_document.specs.declared.doc_path.PathStep.{PathStep}
use Rattle.raw_document.specs.Reading.{each}
use Rattle.raw_document.specs.Shape.{whole, text, list_items, list_of}
use Rattle.raw_reader.specs.Takes.{Takes, TakesMember, EachRead, ListRead}
use Rattle.raw_reader.proofs.Reading.{text_read, number_read}

module _ {T S : Type 0} (view : T → S) (reader : Data → Result S (List PathStep)) (IsRead : Data → T → Type 0) (gives : (d : Data) (x : T) → IsRead d x → reader d ≡ Ok (view x)) where
  each_is : (i : ℕ) (ds : List Data) (xs : List T) → EachRead IsRead ds xs → each reader i ds ≡ Ok (map view xs)
  unfolding each
  each_is i [] [] h = refl
  each_is i [] (x ∷ xs) h = absurd h
  each_is i (d ∷ ds) [] h = absurd h
  each_is i (d ∷ ds) (x ∷ xs) h = rw (gives d x h.0, each_is (suc i) ds xs h.1)

  pub list_is : (d : Data) (xs : List T) → ListRead IsRead d xs → list_of reader d ≡ Ok (map view xs)
  unfolding list_of
  list_is d xs h = rw h.1 (each_is 0 (list_items h.0) xs h.2)

-- a list of what is itself shown
module _ {T : Type 0} (reader : Data → Result T (List PathStep)) (IsRead : Data → T → Type 0) (gives : (d : Data) (x : T) → IsRead d x → reader d ≡ Ok x) where
  each_itself : (i : ℕ) (ds : List Data) (xs : List T) → EachRead IsRead ds xs → each reader i ds ≡ Ok xs
  unfolding each
  each_itself i [] [] h = refl
  each_itself i [] (x ∷ xs) h = absurd h
  each_itself i (d ∷ ds) [] h = absurd h
  each_itself i (d ∷ ds) (x ∷ xs) h = rw (gives d x h.0, each_itself (suc i) ds xs h.1)

  pub list_itself : (d : Data) (xs : List T) → ListRead IsRead d xs → list_of reader d ≡ Ok xs
  unfolding list_of
  list_itself d xs h = rw h.1 (each_itself 0 (list_items h.0) xs h.2)

-- ---- values

pub text_taken : (depth : ℕ) (old new : List Token) (r : Option (Bor (List ℕ))) → IfSome r (λ s. old ≡ json.string s.now ∷ new) → IfSome r (λ s. Takes depth old new (λ d. text d ≡ Ok s.now))
unfolding text
text_taken depth old new None h = tt
text_taken depth old new (Some s) h = (string s.now, ap (λ ts. converted of_json (value depth ts)) h ∙ text_read depth s.now new, refl)

pub number_taken : (depth : ℕ) (old new : List Token) (r : Option ℕ) → IfSome r (λ n. (s : List ℕ) × (old ≡ json.number s ∷ new) × (number_of s ≡ Some (unsigned n))) → IfSome r (λ n. Takes depth old new (λ d. whole d ≡ Ok n))
unfolding whole
number_taken depth old new None h = tt
number_taken depth old new (Some n) h = (number (unsigned n), ap (λ ts. converted of_json (value depth ts)) h.1 ∙ number_read depth h.0 (unsigned n) new h.2, refl)

-- a slot that was filled holds what its member says
pub member_taken : {T : Type 0} (depth : ℕ) (key : List ℕ) (old new : List Token) (r : Option ⊤) (slot : Option T) (IsRead : Data → T → Type 0) (Before After : Members → Type 0)
    → OnSome r ((x : T) × (slot ≡ Some x) × Takes depth old new (λ d. IsRead d x))
    → ((d : Data) (x : T) (found : Members) → slot ≡ Some x → IsRead d x → Before found → After (put key d found))
    → OnSome r (TakesMember depth key old new Before After)
member_taken depth key old new None slot IsRead Before After h then = tt
member_taken depth key old new (Some u) slot IsRead Before After h then = (h.2.0, h.2.1, λ found before. then h.2.0 h.0 found h.1 h.2.2 before)
