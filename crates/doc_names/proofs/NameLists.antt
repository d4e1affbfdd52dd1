-- Names in one text: one of them, and one more behind them.
use Rattle.std.proofs.Common.{◌≡◌, ℕ, zero, suc, ◌+◌, ◌-◌, ◌<◌, ◌≤◌, Bool, true, cond, List, [], ◌∷◌, ◌++◌, length, take, drop, get_or, Some, None, Result, Ok, Err, refl, sym, ap, subst, ◌∙◌, arith, length-append, length-drop}
use Rattle.std.specs.Prelude.{OnOk, OnErr, position, slice_index, slice_range}
use Rattle.std.specs.List.{position_from}
use Rattle.std.specs.Str.{IsUtf8, IsCharBoundary}
use Rattle.std.proofs.lemmas.Iterator.Adapters.{position_from-zero}
use Rattle.std.proofs.lemmas.List.{at_drop_more, at_drop_all, drop_at, take_all, drop-append-le, take-append-le}
use Rattle.std.proofs.lemmas.Str.{IsUtf8-nil, IsCharBoundary-from_take}
use Rattle.doc_names.specs.NameList.{names_from, start_in, AreEnds}

-- there are as many names as ends
pub names_count : (text : List ℕ) (start : ℕ) (ends : List ℕ) → length (names_from text start ends) ≡ length ends
unfolding names_from
names_count text start [] = refl
names_count text start (end ∷ ends) = ap suc (names_count text end ends)

pub number_within : (text ends : List ℕ) (names : List (List ℕ)) (number : ℕ) → names_from text 0 ends ≡ names → number < length names → number < length ends
number_within text ends names number same within =
    subst (λ (count : ℕ). number < count) (ap (λ (names : List (List ℕ)). length names) (sym same) ∙ names_count text 0 ends) within

-- ---- one name

start_later : (start end : ℕ) (ends : List ℕ) (number : ℕ) → start_in start (end ∷ ends) (suc number) ≡ start_in end ends number
start_later start end ends zero = refl
start_later start end ends (suc number) = refl

pub name_at : (text : List ℕ) (start : ℕ) (ends : List ℕ) (number : ℕ) → number < length ends
    → get_or (names_from text start ends) number [] ≡ slice_range text (start_in start ends number) (slice_index ends number)
unfolding names_from
name_at text start [] number within = absurd (omega arith)
name_at text start (end ∷ ends) zero within = refl
name_at text start (end ∷ ends) (suc number) within =
    name_at text end ends number (omega arith) ∙ ap (λ (from : ℕ). slice_range text from (slice_index ends number)) (sym (start_later start end ends number))

-- a name ends within the text, and not before it starts
pub start-le-end : (text : List ℕ) (start : ℕ) (ends : List ℕ) (number : ℕ) → AreEnds text start ends → number < length ends → start_in start ends number ≤ slice_index ends number
unfolding AreEnds
start-le-end text start [] number are within = absurd (omega arith)
start-le-end text start (end ∷ ends) zero are within = are.0
start-le-end text start (end ∷ ends) (suc number) are within =
    subst (λ (from : ℕ). from ≤ slice_index ends number) (sym (start_later start end ends number)) (start-le-end text end ends number are.3 (omega arith))

pub end_within : (text : List ℕ) (start : ℕ) (ends : List ℕ) (number : ℕ) → AreEnds text start ends → number < length ends → slice_index ends number ≤ length text
unfolding AreEnds
end_within text start [] number are within = absurd (omega arith)
end_within text start (end ∷ ends) zero are within = are.1
end_within text start (end ∷ ends) (suc number) are within = end_within text end ends number are.3 (omega arith)

end_utf8 : (text : List ℕ) (start : ℕ) (ends : List ℕ) (number : ℕ) → AreEnds text start ends → number < length ends → IsUtf8 (take (slice_index ends number) text)
unfolding AreEnds
end_utf8 text start [] number are within = absurd (omega arith)
end_utf8 text start (end ∷ ends) zero are within = are.2
end_utf8 text start (end ∷ ends) (suc number) are within = end_utf8 text end ends number are.3 (omega arith)

-- no name cuts a character
pub cut_at_end : (text ends : List ℕ) (number : ℕ) → IsUtf8 text → AreEnds text 0 ends → number < length ends → IsCharBoundary text (slice_index ends number)
cut_at_end text ends number utf8 are within =
    IsCharBoundary-from_take text (slice_index ends number) utf8 (end_within text 0 ends number are within) (end_utf8 text 0 ends number are within)

pub cut_at_start : (text ends : List ℕ) (number : ℕ) → IsUtf8 text → AreEnds text 0 ends → number < length ends → IsCharBoundary text (start_in 0 ends number)
cut_at_start text ends zero utf8 are within = IsCharBoundary-from_take text 0 utf8 (omega arith) IsUtf8-nil
cut_at_start text ends (suc number) utf8 are within = cut_at_end text ends number utf8 are (omega arith)

-- ---- one name more

-- what stands behind a text is the last name
last_name : (text name : List ℕ) → slice_range (text ++ name) (length text) (length (text ++ name)) ≡ name
last_name text name =
    ap (λ (rest : List ℕ). take (length (text ++ name) - length text) rest) (drop_at text name (length text) refl)
    ∙ take_all (length (text ++ name) - length text) name (omega (arith, length-append text name))

-- the names before stay as they are
name_stays : (text name : List ℕ) (start end : ℕ) → start ≤ end → end ≤ length text → slice_range (text ++ name) start end ≡ slice_range text start end
name_stays text name start end order within =
    ap (λ (rest : List ℕ). take (end - start) rest) (drop-append-le start text name (omega arith))
    ∙ take-append-le (end - start) (drop start text) name (omega (arith, length-drop start text))

pub names_push : (text name : List ℕ) (start : ℕ) (ends : List ℕ) → AreEnds text start ends
    → names_from (text ++ name) start (ends ++ length (text ++ name) ∷ []) ≡ names_from text start ends ++ name ∷ []
unfolding names_from AreEnds
names_push text name start [] are =
    ap (λ (last : List ℕ). last ∷ []) (ap (λ (from : ℕ). slice_range (text ++ name) from (length (text ++ name))) are ∙ last_name text name)
names_push text name start (end ∷ ends) are =
    ap (λ (first : List ℕ). first ∷ names_from (text ++ name) end (ends ++ length (text ++ name) ∷ [])) (name_stays text name start end are.0 are.1)
    ∙ ap (λ (rest : List (List ℕ)). slice_range text start end ∷ rest) (names_push text name end ends are.3)

pub ends_push : (text name : List ℕ) (start : ℕ) (ends : List ℕ) → IsUtf8 (text ++ name) → AreEnds text start ends → AreEnds (text ++ name) start (ends ++ length (text ++ name) ∷ [])
unfolding AreEnds
ends_push text name start [] utf8 are =
    let total = length-append text name in
    (omega arith, omega arith, subst IsUtf8 (sym (take_all (length (text ++ name)) (text ++ name) (omega arith))) utf8, refl)
ends_push text name start (end ∷ ends) utf8 are =
    (are.0, omega (arith, length-append text name, are.1), subst IsUtf8 (sym (take-append-le end text name are.1)) are.2, ends_push text name end ends utf8 are.3)

module _ {E : Type 0} (text after name : List ℕ) (ends later : List ℕ) where
  pub names_after : (result : Result (Unit {0}) E) → OnOk result (after ≡ text ++ name) → OnOk result (later ≡ ends ++ length after ∷ []) → AreEnds text 0 ends
      → OnOk result (names_from after 0 later ≡ names_from text 0 ends ++ name ∷ [])
  names_after (Err error) text_is ends_is are = tt
  names_after (Ok done) text_is ends_is are = rw (ends_is, text_is) (names_push text name 0 ends are)

  pub ends_after : (result : Result (Unit {0}) E) → OnOk result (after ≡ text ++ name) → OnOk result (later ≡ ends ++ length after ∷ []) → OnErr result (after ≡ text) → OnErr result (later ≡ ends)
      → IsUtf8 after → AreEnds text 0 ends → AreEnds after 0 later
  ends_after (Err error) text_is ends_is same_text same_ends utf8 are = rw (same_text, same_ends) are
  ends_after (Ok done) text_is ends_is same_text same_ends utf8 are = rw (ends_is, text_is) (ends_push text name 0 ends (subst IsUtf8 text_is utf8) are)

-- ---- no name

pub no_names : (text ends : List ℕ) → ends ≡ [] → [] ≡ names_from text 0 ends
unfolding names_from
no_names text ends none = ap (λ (ends : List ℕ). names_from text 0 ends) (sym none)

pub no_ends : (text ends : List ℕ) → text ≡ [] → ends ≡ [] → AreEnds text 0 ends
unfolding AreEnds
no_ends text ends empty none =
    subst (λ (ends : List ℕ). AreEnds text 0 ends) (sym none) (sym (ap (λ (text : List ℕ). length text) empty))

-- ---- the first name that passes a test

pub found_here : (test : List ℕ → Bool) (names : List (List ℕ)) (number : ℕ) → number < length names → test (get_or names number []) ≡ true
    → position_from test number (drop number names) ≡ position_from test 0 names → Some number ≡ position test names
found_here test names number within passes before =
    sym (ap (λ (is : Bool). cond is (Some number) (position_from test (number + 1) (drop (number + 1) names))) passes)
    ∙ sym (at_drop_more (position_from test number) names number [] within) ∙ before ∙ sym (position_from-zero test names)

pub none_found : (test : List ℕ → Bool) (names : List (List ℕ)) (number : ℕ) → length names ≤ number
    → position_from test number (drop number names) ≡ position_from test 0 names → None ≡ position test names
none_found test names number past before = sym (at_drop_all (position_from test number) names number past) ∙ before ∙ sym (position_from-zero test names)
