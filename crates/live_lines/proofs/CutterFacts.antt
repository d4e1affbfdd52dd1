-- Lines are the same in whatever pieces their bytes come, and are those of the text.
use Rattle.std.proofs.Common.{◌≡◌, ℕ, ◌<◌, Bool, true, false, cond, List, [], ◌∷◌, ◌++◌, length, map, Some, None, refl, sym, ap, ◌∙◌, arith, nat_le, length-append, append_assoc}
use Rattle.std.specs.Prelude.{All}
use Rattle.std.proofs.lemmas.Bool.{leb-false, lt-leb, eqb-true}
use Rattle.std.proofs.lemmas.List.{append-nil}
use Rattle.std.proofs.lemmas.List.Elements.{All-push}
use Rattle.std.proofs.lemmas.List.Splits.{slice_split_at, slice_split_none, length-slice_split}
use Rattle.text_scan.specs.Lines.{pieces_of, all_but_last, last_of, lines_of, left_of}
use Rattle.text_scan.specs.Words.{Text}
use Rattle.text_scan.proofs.LineFacts.{is_feed, more_lines, same_last}
use Rattle.live_lines.specs.Cutting.{Held, within, with_byte, lines_from, held_after}
use Rattle.live_lines.specs.Laws.{PiecesDoNotMatter, LinesAreOfTheText}

-- ---- two pieces

pub lines_from-append : (held : Held) (piece more : List ℕ) → lines_from held (piece ++ more) ≡ lines_from held piece ++ lines_from (held_after held piece) more
unfolding lines_from held_after
lines_from-append held [] more = refl
lines_from-append held (byte ∷ piece) more = go (is_feed byte) (lines_from-append (Some []) piece more) (lines_from-append (with_byte held byte) piece more)
  where
    go : (b : Bool) → lines_from (Some []) (piece ++ more) ≡ lines_from (Some []) piece ++ lines_from (held_after (Some []) piece) more
        → lines_from (with_byte held byte) (piece ++ more) ≡ lines_from (with_byte held byte) piece ++ lines_from (held_after (with_byte held byte) piece) more
        → cond b (held ∷ lines_from (Some []) (piece ++ more)) (lines_from (with_byte held byte) (piece ++ more))
        ≡ cond b (held ∷ lines_from (Some []) piece) (lines_from (with_byte held byte) piece) ++ lines_from (cond b (held_after (Some []) piece) (held_after (with_byte held byte) piece)) more
    go true fed later = ap (λ (lines : List Held). held ∷ lines) fed
    go false fed later = later

pub held_after-append : (held : Held) (piece more : List ℕ) → held_after held (piece ++ more) ≡ held_after (held_after held piece) more
unfolding held_after
held_after-append held [] more = refl
held_after-append held (byte ∷ piece) more = go (is_feed byte) (held_after-append (Some []) piece more) (held_after-append (with_byte held byte) piece more)
  where
    go : (b : Bool) → held_after (Some []) (piece ++ more) ≡ held_after (held_after (Some []) piece) more
        → held_after (with_byte held byte) (piece ++ more) ≡ held_after (held_after (with_byte held byte) piece) more
        → cond b (held_after (Some []) (piece ++ more)) (held_after (with_byte held byte) (piece ++ more))
        ≡ held_after (cond b (held_after (Some []) piece) (held_after (with_byte held byte) piece)) more
    go true fed later = fed
    go false fed later = later

pub pieces_agree : PiecesDoNotMatter
pieces_agree = λ held piece more. (lines_from-append held piece more, held_after-append held piece more)

-- ---- the whole text

-- a text that is too long stays so
longer : (text : Text) (byte : ℕ) → with_byte (within text) byte ≡ within (text ++ byte ∷ [])
longer text byte = go (nat_le (length text) 255) refl
  where
    go : (b : Bool) → nat_le (length text) 255 ≡ b → with_byte (cond b (Some text) None) byte ≡ within (text ++ byte ∷ [])
    go true e = refl
    go false e =
        let long : 255 < length text = leb-false (length text) 255 e in
        sym (rw (lt-leb (length (text ++ byte ∷ [])) 255 (omega (arith, length-append text (byte ∷ [])))) refl)

abbrev IsClear : Text → Type 0
IsClear text = All (λ byte. is_feed byte ≡ false) text

some_piece : (text : Text) → 0 < length (pieces_of text)
some_piece text = omega (arith, length-slice_split is_feed text)

fed_lines : (before more : Text) → IsClear before → lines_of (before ++ 10 ∷ more) ≡ before ∷ lines_of more
unfolding lines_of
fed_lines before more clear = ap all_but_last (slice_split_at is_feed before 10 more clear refl) ∙ more_lines before (pieces_of more) (some_piece more)

fed_left : (before more : Text) → IsClear before → left_of (before ++ 10 ∷ more) ≡ left_of more
unfolding left_of
fed_left before more clear = ap last_of (slice_split_at is_feed before 10 more clear refl) ∙ same_last before (pieces_of more) (some_piece more)

clear_lines : (text : Text) → IsClear text → lines_of (text ++ []) ≡ []
unfolding lines_of
clear_lines text clear = ap (λ (whole : Text). all_but_last (pieces_of whole)) (append-nil text) ∙ ap all_but_last (slice_split_none is_feed text clear)

clear_left : (text : Text) → IsClear text → left_of (text ++ []) ≡ text
unfolding left_of
clear_left text clear = ap (λ (whole : Text). last_of (pieces_of whole)) (append-nil text) ∙ ap last_of (slice_split_none is_feed text clear)

one_more : (before text : Text) (byte : ℕ) → (before ++ byte ∷ []) ++ text ≡ before ++ byte ∷ text
one_more before text byte = append_assoc before (byte ∷ []) text

lines_behind : (before text : Text) → IsClear before → lines_from (within before) text ≡ map within (lines_of (before ++ text))
unfolding lines_from
lines_behind before [] clear = sym (ap (map within) (clear_lines before clear))
lines_behind before (byte ∷ text) clear = go (is_feed byte) refl (lines_behind [] text (λ k d l. absurd (omega (arith, l)))) (lines_behind (before ++ byte ∷ []) text)
  where
    go : (b : Bool) → is_feed byte ≡ b → lines_from (Some []) text ≡ map within (lines_of text)
        → (IsClear (before ++ byte ∷ []) → lines_from (within (before ++ byte ∷ [])) text ≡ map within (lines_of ((before ++ byte ∷ []) ++ text)))
        → cond b (within before ∷ lines_from (Some []) text) (lines_from (with_byte (within before) byte) text) ≡ map within (lines_of (before ++ byte ∷ text))
    go true e fed later =
        ap (λ (lines : List Held). within before ∷ lines) fed
        ∙ sym (ap (map within) (ap (λ (n : ℕ). lines_of (before ++ n ∷ text)) (eqb-true byte 10 e) ∙ fed_lines before text clear))
    go false e fed later =
        ap (λ (held : Held). lines_from held text) (longer before byte)
        ∙ later (All-push (λ byte. is_feed byte ≡ false) before byte clear e)
        ∙ ap (λ (whole : Text). map within (lines_of whole)) (one_more before text byte)

held_behind : (before text : Text) → IsClear before → held_after (within before) text ≡ within (left_of (before ++ text))
unfolding held_after
held_behind before [] clear = sym (ap within (clear_left before clear))
held_behind before (byte ∷ text) clear = go (is_feed byte) refl (held_behind [] text (λ k d l. absurd (omega (arith, l)))) (held_behind (before ++ byte ∷ []) text)
  where
    go : (b : Bool) → is_feed byte ≡ b → held_after (Some []) text ≡ within (left_of text)
        → (IsClear (before ++ byte ∷ []) → held_after (within (before ++ byte ∷ [])) text ≡ within (left_of ((before ++ byte ∷ []) ++ text)))
        → cond b (held_after (Some []) text) (held_after (with_byte (within before) byte) text) ≡ within (left_of (before ++ byte ∷ text))
    go true e fed later =
        fed ∙ sym (ap within (ap (λ (n : ℕ). left_of (before ++ n ∷ text)) (eqb-true byte 10 e) ∙ fed_left before text clear))
    go false e fed later =
        ap (λ (held : Held). held_after held text) (longer before byte)
        ∙ later (All-push (λ byte. is_feed byte ≡ false) before byte clear e)
        ∙ ap (λ (whole : Text). within (left_of whole)) (one_more before text byte)

pub lines_are : LinesAreOfTheText
lines_are = λ text. (lines_behind [] text (λ k d l. absurd (omega (arith, l))), held_behind [] text (λ k d l. absurd (omega (arith, l))))
