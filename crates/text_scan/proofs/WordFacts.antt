-- A list that is cut at the first element that passes, and the words of a line.
use Rattle.std.proofs.Common.{◌≡◌, ℕ, suc, ◌+◌, ◌<◌, Bool, true, false, List, [], ◌∷◌, length, Some, None, refl, arith, cond, not, ap, ◌∙◌, ◌==◌}
use Rattle.std.specs.List.{slice_split, onto_first, position_or_len, before_first, after_first}
use Rattle.std.proofs.lemmas.List.Splits.{slice_split_first, slice_split-cons_no}
use Rattle.text_scan.specs.Cuts.{Cut, cut_at}
use Rattle.text_scan.specs.Words.{words_of}
use Rattle.text_scan.proofs.CutFacts.{is_cut, no_cut}

abbrev is_space : ℕ → Bool
is_space byte = byte == 32

-- the place of the first element that passes, by whether this one does
abbrev place_by : Bool → ℕ → ℕ
place_by passes later = cond (not passes) (1 + later) 0

whole-step : {X : Type 0} (p : X → Bool) (x : X) (xs : List X) (passes : Bool) → p x ≡ passes → place_by passes (position_or_len p xs) ≡ suc (length xs)
    → (position_or_len p xs ≡ length xs → slice_split p xs ≡ xs ∷ []) → slice_split p (x ∷ xs) ≡ (x ∷ xs) ∷ []
whole-step p x xs true is same later = absurd (omega (arith, same))
whole-step p x xs false is same later = slice_split-cons_no p x xs is ∙ ap (onto_first x) (later (omega (arith, same)))

-- where no element passes, the list is the one part
pub whole : {X : Type 0} (p : X → Bool) (xs : List X) → position_or_len p xs ≡ length xs → slice_split p xs ≡ xs ∷ []
whole p [] same = refl
whole p (x ∷ xs) same = whole-step p x xs (p x) refl same (whole p xs)

pub word_next : (line word rest : List ℕ) → position_or_len is_space line < length line → word ≡ before_first is_space line → rest ≡ after_first is_space line
    → words_of line ≡ word ∷ words_of rest
unfolding words_of
word_next line word rest within before behind = slice_split_first is_space line 0 within ∙ (rw (before, behind) refl)

pub word_last : (line : List ℕ) → position_or_len is_space line ≡ length line → words_of line ≡ line ∷ []
unfolding words_of
word_last line end = whole is_space line end

-- ---- as a cut says it

pub word_cut : (line : List ℕ) (cut : Cut) → Some cut ≡ cut_at 32 line → words_of line ≡ cut.before ∷ words_of cut.behind
word_cut line cut e =
    let is = is_cut 32 line cut e in
    word_next line cut.before cut.behind is.within is.before is.behind

pub word_uncut : (line : List ℕ) → None ≡ cut_at 32 line → words_of line ≡ line ∷ []
word_uncut line e = word_last line (no_cut 32 line e)
