-- The lines of a text, one after another.
use Rattle.std.proofs.Common.{inl, inr, ◌≡◌, ℕ, ◌<◌, Bool, false, List, [], ◌∷◌, ◌++◌, length, Some, None, refl, arith, not, ap, ◌∙◌, ◌==◌, All}
use Rattle.std.specs.List.{slice_split, position_or_len, before_first, after_first}
use Rattle.std.proofs.lemmas.List.Splits.{slice_split_at, slice_split_first, length-slice_split}
use Rattle.std.proofs.lemmas.List.Sums.{prefix_len-le-length}
use Rattle.std.proofs.lemmas.Bool.{cases_lt}
use Rattle.text_scan.specs.Cuts.{Cut, cut_at}
use Rattle.text_scan.specs.Lines.{pieces_of, all_but_last, last_of, lines_of, left_of}
use Rattle.text_scan.proofs.CutFacts.{is_cut, no_cut}
use Rattle.text_scan.proofs.WordFacts.{whole}

abbrev pub is_feed : ℕ → Bool
is_feed byte = byte == 10

parts-some : {X : Type 0} (p : X → Bool) (xs : List X) → 0 < length (slice_split p xs)
parts-some p xs = omega (arith, length-slice_split p xs)

pub more_lines : (piece : List ℕ) (pieces : List (List ℕ)) → 0 < length pieces → all_but_last (piece ∷ pieces) ≡ piece ∷ all_but_last pieces
more_lines piece [] some = absurd (omega (arith, some))
more_lines piece (next ∷ pieces) some = refl

pub same_last : (piece : List ℕ) (pieces : List (List ℕ)) → 0 < length pieces → last_of (piece ∷ pieces) ≡ last_of pieces
same_last piece [] some = absurd (omega (arith, some))
same_last piece (next ∷ pieces) some = refl

first_line : (text : List ℕ) → position_or_len is_feed text < length text → lines_of text ≡ before_first is_feed text ∷ lines_of (after_first is_feed text)
unfolding lines_of
first_line text within =
    ap all_but_last (slice_split_first is_feed text 0 within)
    ∙ more_lines (before_first is_feed text) (pieces_of (after_first is_feed text)) (parts-some is_feed (after_first is_feed text))

first_left : (text : List ℕ) → position_or_len is_feed text < length text → left_of text ≡ left_of (after_first is_feed text)
unfolding left_of
first_left text within =
    ap last_of (slice_split_first is_feed text 0 within)
    ∙ same_last (before_first is_feed text) (pieces_of (after_first is_feed text)) (parts-some is_feed (after_first is_feed text))

end_lines : (text : List ℕ) → position_or_len is_feed text ≡ length text → lines_of text ≡ []
unfolding lines_of
end_lines text end = ap all_but_last (whole is_feed text end)

end_left : (text : List ℕ) → position_or_len is_feed text ≡ length text → left_of text ≡ text
unfolding left_of
end_left text end = ap last_of (whole is_feed text end)

-- ---- as a cut says it

pub line_next : (text : List ℕ) (cut : Cut) → Some cut ≡ cut_at 10 text → lines_of text ≡ cut.before ∷ lines_of cut.behind
line_next text cut e = let is = is_cut 10 text cut e in first_line text is.within ∙ rw (is.before, is.behind) refl

pub left_next : (text : List ℕ) (cut : Cut) → Some cut ≡ cut_at 10 text → left_of text ≡ left_of cut.behind
left_next text cut e = let is = is_cut 10 text cut e in first_left text is.within ∙ rw is.behind refl

pub no_line : (text : List ℕ) → None ≡ cut_at 10 text → lines_of text ≡ []
no_line text e = end_lines text (no_cut 10 text e)

-- where no line is left, the text has no line feed
pub left_whole : (text : List ℕ) → lines_of text ≡ [] → left_of text ≡ text
left_whole text none = elim (cases_lt (position_or_len is_feed text) (length text)) [
  | inl within ↦ absurd (let more = first_line text within in cc)
  | inr past ↦ end_left text (omega (arith, prefix_len-le-length (λ byte. not (is_feed byte)) text))
]

-- ---- as lines are printed

-- a line that has no line feed, and one behind it
pub line_fed : (line text : List ℕ) → All (λ byte. is_feed byte ≡ false) line → lines_of (line ++ 10 ∷ text) ≡ line ∷ lines_of text
unfolding lines_of
line_fed line text clear =
    ap all_but_last (slice_split_at is_feed line 10 text clear refl) ∙ more_lines line (pieces_of text) (parts-some is_feed text)

pub left_fed : (line text : List ℕ) → All (λ byte. is_feed byte ≡ false) line → left_of (line ++ 10 ∷ text) ≡ left_of text
unfolding left_of
left_fed line text clear =
    ap last_of (slice_split_at is_feed line 10 text clear refl) ∙ same_last line (pieces_of text) (parts-some is_feed text)
