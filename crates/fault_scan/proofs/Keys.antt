-- The keys of a table, and the members that it knows.
use Rattle.std.proofs.Common.{◌≡◌, ℕ, zero, suc, ◌<◌, ◌≤◌, Bool, true, false, cond, List, [], ◌∷◌, length, get_or, Some, None, refl, sym, ap, ◌∙◌, arith}
use Rattle.std.specs.Prelude.{◌+◌, ◌||◌, ◌&&◌, not, nat_lt, is_some}
use Rattle.std.specs.List.{list_any, remove, position, position_or_len}
use Rattle.std.specs.Ordering.{is_eq, nat_cmp, match_ordering}
use Rattle.std.specs.declared.cmp.Ordering.{Ordering}
use Rattle.std.specs.declared.cmp.Ordering.TheVariants.{Less, Equal, Greater}
use Rattle.std.specs.Cmp.Lexicographic.{slice_cmp, nat_list_eq_equiv}
use Rattle.std.specs.Str.{bytes_eq}
use Rattle.std.proofs.lemmas.Bool.{and_parts, or_parts, not-true, ltb-true, ltb-false}
use Rattle.std.proofs.lemmas.Slice.Eq.{bytes_eq-Decides}
use Rattle.std.proofs.lemmas.Map.Text.{is_eq-slice_cmp}
use Rattle.serde_json.specs.Data.{Data, Members, no_members, member, put}
use Rattle.serde_json.specs.Find.{get_member}
use Rattle.raw_document.specs.Words.{word}
use Rattle.raw_document.specs.Shape.{is_one_of, has_only}
use Rattle.version_scan.proofs.Named.{get_put, differs, passed as apart_from}
use Rattle.fault_scan.specs.declared.kinds.Field.{Field}
use Rattle.fault_scan.specs.Tables.{required_keys, other_keys}
use Rattle.fault_scan.specs.Seen.{is_named, are_apart, only}

-- ---- booleans

or_swap : (a b c : Bool) → (a || (b || c)) ≡ (b || (a || c))
or_swap true true c = refl
or_swap true false c = refl
or_swap false true c = refl
or_swap false false c = refl

and_swap : (a b c : Bool) → (a && (b && c)) ≡ (b && (a && c))
and_swap true true c = refl
and_swap true false c = refl
and_swap false true c = refl
and_swap false false c = refl

and_again : (a b : Bool) → (a && b) ≡ (a && (a && b))
and_again true b = refl
and_again false b = refl

and_grouped : (a b c : Bool) → (a && (b && c)) ≡ ((a && b) && c)
and_grouped true b c = refl
and_grouped false b c = refl

and_never : (a : Bool) → (a && false) ≡ false
and_never true = refl
and_never false = refl

or_grouped : (a b c : Bool) → ((a || b) || c) ≡ (a || (b || c))
or_grouped true b c = refl
or_grouped false b c = refl

-- ---- keys

pub same_bytes : (q k : List ℕ) → bytes_eq q k ≡ true → q ≡ k
same_bytes q k same = (bytes_eq-Decides q k).0 same

pub get_same : (q k : List ℕ) (d : Data) (ms : Members) → bytes_eq q k ≡ true → get_member q (put k d ms) ≡ Some d
get_same q k d ms same = ap (λ (n : List ℕ). get_member n (put k d ms)) (same_bytes q k same) ∙ get_put k d ms

get_first : (q l : List ℕ) (e : Data) (ms : Members) → bytes_eq q l ≡ true → get_member q (member l e ms) ≡ Some e
get_first q l e ms same = go (slice_cmp nat_cmp q l) (is_eq-slice_cmp q l ∙ same) where
  go : (o : Ordering) → is_eq o ≡ true → match_ordering o (get_member q ms) (Some e) (get_member q ms) ≡ Some e
  go Less h = absurd cc
  go Equal h = refl
  go Greater h = absurd cc

pub get_later : (q l : List ℕ) (e : Data) (ms : Members) → bytes_eq q l ≡ false → get_member q (member l e ms) ≡ get_member q ms
get_later q l e ms apart = apart_from (slice_cmp nat_cmp q l) (get_member q ms) (Some e) (differs q l apart)

-- ---- the members that a table knows

known : (fs : List Field) (name : List ℕ) → (is_one_of (required_keys fs) name || is_one_of (other_keys fs) name) ≡ list_any (is_named name) fs
unfolding is_one_of
known [] name = refl
known (f ∷ fs) name = go f.is_required (known fs name) where
  R : Bool
  R = is_one_of (required_keys fs) name

  O : Bool
  O = is_one_of (other_keys fs) name

  go : (b : Bool) → (R || O) ≡ list_any (is_named name) fs → (is_one_of (cond b (f.key ∷ required_keys fs) (required_keys fs)) name || is_one_of (cond b (other_keys fs) (f.key ∷ other_keys fs)) name) ≡ (is_named name f || list_any (is_named name) fs)
  go true more = or_grouped (is_named name f) R O ∙ ap (λ b. is_named name f || b) more
  go false more = or_swap R (is_named name f) O ∙ ap (λ b. is_named name f || b) more

only_member : (fs : List Field) (name : List ℕ) (d : Data) (ms : Members) → only fs (member name d ms) ≡ (list_any (is_named name) fs && only fs ms)
unfolding has_only
only_member fs name d ms = ap (λ b. b && only fs ms) (known fs name)

pub only_none : (fs : List Field) → only fs no_members ≡ true
unfolding has_only
only_none fs = refl

pub only_put : (fs : List Field) (k : List ℕ) (d : Data) (ms : Members) → only fs (put k d ms) ≡ (list_any (is_named k) fs && only fs ms)
only_put fs k d no_members = only_member fs k d no_members
only_put fs k d (member l e ms) = go (slice_cmp nat_cmp k l) refl (only_put fs k d ms) where
  knows : List ℕ → Bool
  knows name = list_any (is_named name) fs

  whole : only fs (member l e ms) ≡ (knows l && only fs ms)
  whole = only_member fs l e ms

  go : (o : Ordering) → slice_cmp nat_cmp k l ≡ o → only fs (put k d ms) ≡ (knows k && only fs ms) → only fs (match_ordering o (member k d (member l e ms)) (member l d ms) (member l e (put k d ms))) ≡ (knows k && only fs (member l e ms))
  go Less is more = only_member fs k d (member l e ms)
  go Equal is more =
      let same : k ≡ l = same_bytes k l (sym (is_eq-slice_cmp k l) ∙ ap is_eq is) in
      only_member fs l d ms ∙ and_again (knows l) (only fs ms) ∙ ap (λ (n : List ℕ). knows n && (knows l && only fs ms)) (sym same) ∙ ap (λ b. knows k && b) (sym whole)
  go Greater is more = only_member fs l e (put k d ms) ∙ ap (λ b. knows l && b) more ∙ and_swap (knows l) (knows k) (only fs ms) ∙ ap (λ b. knows k && b) (sym whole)

-- ---- a table without one of its fields

pub any_remove : {X : Type 0} (p : X → Bool) (xs : List X) (i : ℕ) (x : X) → i < length xs → get_or xs i x ≡ x → list_any p xs ≡ (p x || list_any p (remove xs i))
any_remove p [] i x some is = absurd (omega arith)
any_remove p (y ∷ xs) zero x some is = ap (λ z. p z || list_any p xs) is
any_remove p (y ∷ xs) (suc i) x some is = ap (λ b. p y || b) (any_remove p xs i x (omega arith) is) ∙ or_swap (p y) (p x) (list_any p (remove xs i))

not_any : {X : Type 0} (p : X → Bool) (xs : List X) (i : ℕ) (x : X) → i < length xs → get_or xs i x ≡ x → list_any p xs ≡ false → p x ≡ false
not_any p xs i x some is none = (or_parts (p x) (list_any p (remove xs i)) (sym (any_remove p xs i x some is) ∙ none)).0

other_way : (f g : Field) → is_named (word f.key) g ≡ is_named (word g.key) f
other_way f g = nat_list_eq_equiv.symm (word g.key) (word f.key)

not_again : (fs : List Field) (i : ℕ) (f : Field) → are_apart fs ≡ true → i < length fs → get_or fs i f ≡ f → list_any (is_named (word f.key)) (remove fs i) ≡ false
not_again [] i f apart some is = absurd (omega arith)
not_again (g ∷ fs) zero f apart some is = ap (λ (h : Field). list_any (is_named (word h.key)) fs) (sym is) ∙ not-true (list_any (is_named (word g.key)) fs) (and_parts _ (are_apart fs) apart).0
not_again (g ∷ fs) (suc i) f apart some is =
    let parts = and_parts (not (list_any (is_named (word g.key)) fs)) (are_apart fs) apart in
    let first : is_named (word g.key) f ≡ false = not_any (is_named (word g.key)) fs i f (omega arith) is (not-true _ parts.0) in
    rw (other_way f g, first) (not_again fs i f parts.1 (omega arith) is)

pub only_remove : (fs : List Field) (i : ℕ) (f : Field) (ms : Members) → are_apart fs ≡ true → i < length fs → get_or fs i f ≡ f → only (remove fs i) ms ≡ (only fs ms && not (is_some (get_member (word f.key) ms)))
only_remove fs i f no_members apart some is = only_none (remove fs i) ∙ sym (ap (λ b. b && true) (only_none fs))
only_remove fs i f (member l e ms) apart some is = only_member (remove fs i) l e ms ∙ go (bytes_eq (word f.key) l) refl (only_remove fs i f ms apart some is) where
  rest : Bool
  rest = list_any (is_named l) (remove fs i)

  there : List ℕ → Members → Bool
  there k found = is_some (get_member k found)

  go : (b : Bool) → bytes_eq (word f.key) l ≡ b → only (remove fs i) ms ≡ (only fs ms && not (there (word f.key) ms)) → (rest && only (remove fs i) ms) ≡ (only fs (member l e ms) && not (there (word f.key) (member l e ms)))
  go true same more =
      let named : word f.key ≡ l = same_bytes (word f.key) l same in
      let none : rest ≡ false = ap (λ (n : List ℕ). list_any (is_named n) (remove fs i)) (sym named) ∙ not_again fs i f apart some is in
      ap (λ b. b && only (remove fs i) ms) none ∙ sym (ap (λ o. only fs (member l e ms) && not (is_some o)) (get_first (word f.key) l e ms same) ∙ and_never (only fs (member l e ms)))
  go false apart_too more =
      let split : list_any (is_named l) fs ≡ rest = any_remove (is_named l) fs i f some is ∙ ap (λ b. b || rest) apart_too in
      ap (λ b. rest && b) more ∙ and_grouped rest (only fs ms) (not (there (word f.key) ms))
      ∙ ap (λ b. (b && only fs ms) && not (there (word f.key) ms)) (sym split)
      ∙ ap (λ b. b && not (there (word f.key) ms)) (sym (only_member fs l e ms))
      ∙ ap (λ o. only fs (member l e ms) && not (is_some o)) (sym (get_later (word f.key) l e ms apart_too))

-- ---- the place of a key

pub place_is : {X : Type 0} (p : X → Bool) (xs : List X) (i : ℕ) → position p xs ≡ Some i → (position_or_len p xs ≡ i) × (i < length xs)
place_is p xs i e = go (nat_lt (position_or_len p xs) (length xs)) refl e where
  go : (b : Bool) → nat_lt (position_or_len p xs) (length xs) ≡ b → cond b (Some (position_or_len p xs)) None ≡ Some i → (position_or_len p xs ≡ i) × (i < length xs)
  go true some e = let is : position_or_len p xs ≡ i = cc in (is, rw (← is) (ltb-true _ _ some))
  go false none e = absurd cc

none_up_to : {X : Type 0} (p : X → Bool) (xs : List X) → length xs ≤ position_or_len p xs → list_any p xs ≡ false
none_up_to p [] h = refl
none_up_to p (x ∷ xs) h = go (p x) h (none_up_to p xs) where
  go : (b : Bool) → suc (length xs) ≤ cond (not b) (1 + position_or_len p xs) 0 → (length xs ≤ position_or_len p xs → list_any p xs ≡ false) → (b || list_any p xs) ≡ false
  go true h more = absurd (omega arith)
  go false h more = more (omega arith)

pub no_place : {X : Type 0} (p : X → Bool) (xs : List X) → position p xs ≡ None → list_any p xs ≡ false
no_place p xs e = go (nat_lt (position_or_len p xs) (length xs)) refl e where
  go : (b : Bool) → nat_lt (position_or_len p xs) (length xs) ≡ b → cond b (Some (position_or_len p xs)) None ≡ None → list_any p xs ≡ false
  go true some e = absurd cc
  go false none e = none_up_to p xs (ltb-false _ _ none)

pub known_there : {X : Type 0} (p : X → Bool) (xs : List X) (i : ℕ) → position_or_len p xs ≡ i → i < length xs → list_any p xs ≡ true
known_there p [] i place some = absurd (omega arith)
known_there p (x ∷ xs) i place some = go (p x) place (known_there p xs) where
  go : (b : Bool) → cond (not b) (1 + position_or_len p xs) 0 ≡ i → ((j : ℕ) → position_or_len p xs ≡ j → j < length xs → list_any p xs ≡ true) → (b || list_any p xs) ≡ true
  go true here more = refl
  go false there more = more (position_or_len p xs) refl (omega (arith, some, there))

pub not_either : (a b : Bool) → not (a || b) ≡ (not a && not b)
not_either true b = refl
not_either false b = refl
