-- The numbers of names, as one name more is numbered.
use Rattle.std.proofs.Common.{◌≡◌, ℕ, ◌+◌, ◌<◌, Bool, true, false, cond, List, [], ◌∷◌, ◌++◌, length, get_or, take, Option, Some, None, String, Global, HashMap, BuildHasherDefault, string_bytes, refl, sym, ap, subst, ◌∙◌, arith}
use Rattle.std.specs.Prelude.{position, is_some}
use Rattle.std.specs.HashMap.{get_by_text, UpdatesBy}
use Rattle.std.specs.Map.{lookup}
use Rattle.std.specs.List.{position_from}
use Rattle.std.specs.Option.{option_or}
use Rattle.std.specs.Str.{bytes_eq, IsUtf8}
use Rattle.std.specs.declared.hash.FoldHasher.{FoldHasher}
use Rattle.std.proofs.lemmas.Iterator.Adapters.{position_from-zero}
use Rattle.std.proofs.lemmas.List.{take_more}
use Rattle.std.proofs.lemmas.Map.Text.{hash_map_updates_text}
use Rattle.std.proofs.lemmas.Slice.Eq.{bytes_eq-Decides}
use Rattle.std.proofs.lemmas.Str.{IsUtf8-string_bytes}
use Rattle.std.specs.String.{string_eq}
use Rattle.text_scan.specs.Names.{number_of_name}
use Rattle.text_scan.specs.Words.{Text}

abbrev Numbers : Type 0
Numbers = HashMap (String Global) ℕ (BuildHasherDefault FoldHasher)

-- each name has its number, and nothing else has one
abbrev pub AreNumbered : List Text → Numbers → Type 0
AreNumbered names numbers = (name : Text) → get_by_text numbers name ≡ number_of_name names name

-- ---- positions

position_from_push : (test : Text → Bool) (i : ℕ) (texts : List Text) (text : Text) → position_from test i (texts ++ text ∷ []) ≡ option_or (position_from test i texts) (cond (test text) (Some (i + length texts)) None)
position_from_push test i [] text = ap (λ (n : ℕ). cond (test text) (Some n) None) (omega arith)
position_from_push test i (first ∷ texts) text = go (test first) (position_from_push test (i + 1) texts text)
  where
    go : (b : Bool) → position_from test (i + 1) (texts ++ text ∷ []) ≡ option_or (position_from test (i + 1) texts) (cond (test text) (Some (i + 1 + length texts)) None)
        → cond b (Some i) (position_from test (i + 1) (texts ++ text ∷ [])) ≡ option_or (cond b (Some i) (position_from test (i + 1) texts)) (cond (test text) (Some (i + length (first ∷ texts))) None)
    go true rest = refl
    go false rest = rest ∙ ap (λ (n : ℕ). option_or (position_from test (i + 1) texts) (cond (test text) (Some n) None)) (let sum : i + 1 + length texts ≡ i + length (first ∷ texts) = omega arith in sum)

position_push : (test : Text → Bool) (texts : List Text) (text : Text) → position test (texts ++ text ∷ []) ≡ option_or (position test texts) (cond (test text) (Some (length texts)) None)
position_push test texts text =
    position_from-zero test (texts ++ text ∷ []) ∙ position_from_push test 0 texts text
    ∙ ap (λ (n : ℕ). option_or (position_from test 0 texts) (cond (test text) (Some n) None)) (let sum : 0 + length texts ≡ length texts = omega arith in sum)
    ∙ ap (λ (o : Option ℕ). option_or o (cond (test text) (Some (length texts)) None)) (sym (position_from-zero test texts))

or_none : (o : Option ℕ) → o ≡ option_or o None
or_none None = refl
or_none (Some n) = refl

first_stays : (o p : Option ℕ) → is_some o ≡ true → o ≡ option_or o p
first_stays None p e = absurd (let f : false ≡ true = e in cc)
first_stays (Some n) p e = refl

none_first : (o p : Option ℕ) → is_some o ≡ false → p ≡ option_or o p
none_first None p e = refl
none_first (Some n) p e = absurd (let f : true ≡ false = e in cc)

same_name : (x y : Text) → bytes_eq x y ≡ true → x ≡ y
same_name x y e = (bytes_eq-Decides x y).0 e

other_way : (x y : Text) → bytes_eq x y ≡ false → bytes_eq y x ≡ false
other_way x y e = go (bytes_eq y x) refl
  where
    go : (b : Bool) → bytes_eq y x ≡ b → bytes_eq y x ≡ false
    go false h = h
    go true h = absurd (let f : true ≡ false = sym ((bytes_eq-Decides x y).1 (sym (same_name y x h))) ∙ e in cc)

-- ---- one name more

-- a name that stood before keeps its number
pub stood_before : (numbers : Numbers) (before : List Text) (name : Text) → AreNumbered before numbers → is_some (get_by_text numbers name) ≡ true → AreNumbered (before ++ name ∷ []) numbers
stood_before numbers before name known there = λ query. known query ∙ go query (bytes_eq query name) refl ∙ sym (position_push (bytes_eq query) before name)
  where
    stands : (query : Text) → query ≡ name → is_some (position (bytes_eq query) before) ≡ true
    stands query same = ap (λ (text : Text). is_some (position (bytes_eq text) before)) same ∙ ap (λ (o : Option ℕ). is_some o) (sym (known name)) ∙ there

    go : (query : Text) (b : Bool) → bytes_eq query name ≡ b → position (bytes_eq query) before ≡ option_or (position (bytes_eq query) before) (cond (bytes_eq query name) (Some (length before)) None)
    go query false e = rw e (or_none (position (bytes_eq query) before))
    go query true e = first_stays (position (bytes_eq query) before) (cond (bytes_eq query name) (Some (length before)) None) (stands query (same_name query name e))

-- a new name gets the number of its place
pub stands_now : (numbers after : Numbers) (before : List Text) (name : Text) (number : ℕ) → AreNumbered before numbers → is_some (get_by_text numbers name) ≡ false
    → UpdatesBy string_eq (λ key. bytes_eq name (string_bytes key)) numbers after (Some number) → number ≡ length before → AreNumbered (before ++ name ∷ []) after
stands_now numbers after before name number known new updates place = λ query. hash_map_updates_text name numbers after (Some number) updates query ∙ go query (bytes_eq query name) refl ∙ sym (position_push (bytes_eq query) before name)
  where
    go : (query : Text) (b : Bool) → bytes_eq query name ≡ b
        → cond (bytes_eq name query) (Some number) (get_by_text numbers query) ≡ option_or (position (bytes_eq query) before) (cond (bytes_eq query name) (Some (length before)) None)
    go query true e =
        let same = same_name query name e in
        rw (e, (bytes_eq-Decides name query).1 (sym same), place)
        (none_first (position (bytes_eq query) before) (Some (length before)) (ap (λ (text : Text). is_some (position (bytes_eq text) before)) same ∙ ap (λ (o : Option ℕ). is_some o) (sym (known name)) ∙ new))
    go query false e = rw (e, other_way query name e) (known query ∙ or_none (position (bytes_eq query) before))

-- the names so far and the next one
pub one_more : (names : List Text) (i : ℕ) → i < length names → take i names ++ get_or names i [] ∷ [] ≡ take (i + 1) names
one_more names i within = sym (take_more names i [] within)

-- ---- a name of bytes

none_has : (name : Text) (entries : List (String Global × ℕ)) → (IsUtf8 name → ⊥) → lookup (λ key. bytes_eq name (string_bytes key)) entries ≡ None
none_has name [] none = refl
none_has name (entry ∷ entries) none = go (bytes_eq name (string_bytes entry.0)) refl (none_has name entries none)
  where
    go : (b : Bool) → bytes_eq name (string_bytes entry.0) ≡ b → lookup (λ key. bytes_eq name (string_bytes key)) entries ≡ None
        → cond b (Some entry.1) (lookup (λ key. bytes_eq name (string_bytes key)) entries) ≡ None
    go false e rest = rest
    go true e rest = absurd (none (subst IsUtf8 (sym (same_name name (string_bytes entry.0) e)) (IsUtf8-string_bytes entry.0)))

-- bytes that are no UTF-8 are no name
pub no_number : (names : List Text) (numbers : Numbers) (name : Text) → AreNumbered names numbers → (IsUtf8 name → ⊥) → None ≡ number_of_name names name
no_number names numbers name known none = sym (none_has name numbers.entries none) ∙ known name
