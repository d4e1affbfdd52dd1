-- Lines and words: cut apart and joined again.
use Rattle.std.proofs.Common.{◌≡◌, ◌<◌, ◌++◌, ◌==◌, ℕ, false, List, [], ◌∷◌, length, refl, sym, ap, ◌∙◌, arith, append_assoc, All}
use Rattle.std.specs.List.{slice_split, join_with_byte}
use Rattle.std.proofs.lemmas.List.Splits.{join_with_byte-slice_split, length-slice_split, slice_split_at, slice_split_none}
use Rattle.std.proofs.lemmas.List.Elements.{All-head, All-tail}
use Rattle.text_scan.specs.Lines.{all_but_last, last_of, left_of, lines_of, pieces_of}
use Rattle.text_scan.specs.Words.{words_of}
use Rattle.text_scan.proofs.LineFacts.{left_fed, line_fed}

-- none of the bytes is this one
abbrev pub HasNo : ℕ → List ℕ → Type 0
HasNo byte bytes = All (λ b. (b == byte) ≡ false) bytes

-- ---- lines

-- lines as they are printed, a line feed behind each
abbrev pub printed : List (List ℕ) → List ℕ
printed [] = []
printed (line ∷ lines) = line ++ 10 ∷ printed lines

pub printed-append : (lines others : List (List ℕ)) → printed (lines ++ others) ≡ printed lines ++ printed others
printed-append [] others = refl
printed-append (line ∷ lines) others =
    ap (λ (rest : List ℕ). line ++ 10 ∷ rest) (printed-append lines others) ∙ sym (append_assoc line (10 ∷ printed lines) (printed others))

pieces-some : (text : List ℕ) → 0 < length (pieces_of text)
pieces-some text = omega (arith, length-slice_split (λ (byte : ℕ). byte == 10) text)

-- the lines of a printed text, and of what follows it
pub lines_of-printed : (lines : List (List ℕ)) (text : List ℕ) → All (HasNo 10) lines → lines_of (printed lines ++ text) ≡ lines ++ lines_of text
lines_of-printed [] text none = refl
lines_of-printed (line ∷ lines) text none =
    ap lines_of (append_assoc line (10 ∷ printed lines) text)
    ∙ line_fed line (printed lines ++ text) (All-head (HasNo 10) line lines none)
    ∙ ap (λ (rest : List (List ℕ)). line ∷ rest) (lines_of-printed lines text (All-tail (HasNo 10) line lines none))

pub left_of-printed : (lines : List (List ℕ)) (text : List ℕ) → All (HasNo 10) lines → left_of (printed lines ++ text) ≡ left_of text
left_of-printed [] text none = refl
left_of-printed (line ∷ lines) text none =
    ap left_of (append_assoc line (10 ∷ printed lines) text)
    ∙ left_fed line (printed lines ++ text) (All-head (HasNo 10) line lines none)
    ∙ left_of-printed lines text (All-tail (HasNo 10) line lines none)

joined_pieces : (pieces : List (List ℕ)) → 0 < length pieces → join_with_byte 10 pieces ≡ printed (all_but_last pieces) ++ last_of pieces
joined_pieces [] some = absurd (omega (arith, some))
joined_pieces (piece ∷ []) some = refl
joined_pieces (piece ∷ next ∷ pieces) some =
    ap (λ (rest : List ℕ). piece ++ 10 ∷ rest) (joined_pieces (next ∷ pieces) (omega arith))
    ∙ sym (append_assoc piece (10 ∷ printed (all_but_last (next ∷ pieces))) (last_of (next ∷ pieces)))

-- a text is its lines, and what is left behind them
pub text_is : (text : List ℕ) → text ≡ printed (lines_of text) ++ left_of text
unfolding lines_of left_of
text_is text = sym (join_with_byte-slice_split 10 text) ∙ joined_pieces (pieces_of text) (pieces-some text)

-- ---- words

-- words as they are printed, a space between two
abbrev pub spaced : List (List ℕ) → List ℕ
spaced words = join_with_byte 32 words

pub spaced_words : (line : List ℕ) → line ≡ spaced (words_of line)
unfolding words_of
spaced_words line = sym (join_with_byte-slice_split 32 line)

words_split : (words : List (List ℕ)) → 0 < length words → All (HasNo 32) words → slice_split (λ (byte : ℕ). byte == 32) (spaced words) ≡ words
words_split [] some none = absurd (omega (arith, some))
words_split (word ∷ []) some none = slice_split_none (λ (byte : ℕ). byte == 32) word (All-head (HasNo 32) word [] none)
words_split (word ∷ next ∷ words) some none =
    slice_split_at (λ (byte : ℕ). byte == 32) word 32 (spaced (next ∷ words)) (All-head (HasNo 32) word (next ∷ words) none) refl
    ∙ ap (λ (rest : List (List ℕ)). word ∷ rest) (words_split (next ∷ words) (omega arith) (All-tail (HasNo 32) word (next ∷ words) none))

pub words_of-spaced : (words : List (List ℕ)) → 0 < length words → All (HasNo 32) words → words_of (spaced words) ≡ words
unfolding words_of
words_of-spaced words some none = words_split words some none
