-- The answers to lines behind a document.
use Rattle.std.proofs.Common.{◌≡◌, ◌∙◌, ℕ, Bool, true, false, ◌==◌, cond, List, [], ◌∷◌, ◌++◌, Some, None, ap, refl, sym, subst, drop, append_assoc, append-nil}
use Rattle.live_lines.specs.Cutting.{Held, all_lines, lines_from, held_after, with_byte, last_line, is_nothing}
use Rattle.live_lines.proofs.CutterFacts.{lines_from-append, held_after-append}
use Rattle.two_part.specs.TwoPart.{parts_of}
use Rattle.live_run.specs.Follow.{Follow, answers, called_for, follow_text, text_at, text_for}
use Rattle.live_run.specs.Answers.{answers_to, Brings, EndsWith, IsBefore, IsBehind}

pub answers-append : (follow : Follow) (document : List ℕ) (before xs ys : List Held)
    → answers follow document before (xs ++ ys) ≡ answers follow document before xs ++ answers follow document (before ++ xs) ys
answers-append follow document before [] ys = ap (λ lines. answers follow document lines ys) (sym (append-nil before))
answers-append follow document before (line ∷ xs) ys =
    ap (λ text. follow.answer_of document before line ++ text)
    (answers-append follow document (before ++ line ∷ []) xs ys
    ∙ ap (λ lines. answers follow document (before ++ line ∷ []) xs ++ answers follow document lines ys) (append_assoc before (line ∷ []) xs))
    ∙ sym (append_assoc (follow.answer_of document before line) (answers follow document (before ++ line ∷ []) xs) (answers follow document (before ++ line ∷ xs) ys))

-- a line feed ends what is held, and any other byte is held with it
pub lines-fed : (held : Held) (byte : ℕ) → (byte == 10) ≡ true → lines_from held (byte ∷ []) ≡ held ∷ []
unfolding lines_from
lines-fed held byte e = rw e refl

pub lines-held : (held : Held) (byte : ℕ) → (byte == 10) ≡ false → lines_from held (byte ∷ []) ≡ []
unfolding lines_from
lines-held held byte e = rw e refl

pub held-fed : (held : Held) (byte : ℕ) → (byte == 10) ≡ true → held_after held (byte ∷ []) ≡ Some []
unfolding held_after
held-fed held byte e = rw e refl

pub held-held : (held : Held) (byte : ℕ) → (byte == 10) ≡ false → held_after held (byte ∷ []) ≡ with_byte held byte
unfolding held_after
held-held held byte e = rw e refl

abbrev pub lines : List ℕ → List Held
lines behind = lines_from (Some []) behind

abbrev pub held : List ℕ → Held
held behind = held_after (Some []) behind

answers_to-append : (follow : Follow) (document behind piece : List ℕ)
    → answers_to follow document (behind ++ piece) ≡ answers_to follow document behind ++ answers follow document (lines behind) (lines_from (held behind) piece)
answers_to-append follow document behind piece =
    ap (λ all. answers follow document [] all) (lines_from-append (Some []) behind piece)
    ∙ answers-append follow document [] (lines behind) (lines_from (held behind) piece)

-- a line feed brings the answer to the line that it ends
pub brings-fed : (follow : Follow) (document behind : List ℕ) (byte : ℕ) → (byte == 10) ≡ true
    → Brings follow document behind (behind ++ byte ∷ []) (follow.answer_of document (lines behind) (held behind))
brings-fed follow document behind byte e =
    answers_to-append follow document behind (byte ∷ [])
    ∙ ap (λ more. answers_to follow document behind ++ answers follow document (lines behind) more) (lines-fed (held behind) byte e)
    ∙ ap (λ text. answers_to follow document behind ++ text) (append-nil (follow.answer_of document (lines behind) (held behind)))

-- any other byte brings none
pub brings-held : (follow : Follow) (document behind : List ℕ) (byte : ℕ) → (byte == 10) ≡ false → Brings follow document behind (behind ++ byte ∷ []) []
brings-held follow document behind byte e =
    answers_to-append follow document behind (byte ∷ [])
    ∙ ap (λ more. answers_to follow document behind ++ answers follow document (lines behind) more) (lines-held (held behind) byte e)

pub brings-append : (follow : Follow) (document a b c t u : List ℕ) → Brings follow document a b t → Brings follow document b c u → Brings follow document a c (t ++ u)
brings-append follow document a b c t u first second =
    second ∙ ap (λ text. text ++ u) first ∙ append_assoc (answers_to follow document a) t u

pub brings-nothing : (follow : Follow) (document behind : List ℕ) → Brings follow document behind behind []
brings-nothing follow document behind = sym (append-nil (answers_to follow document behind))

-- what a piece brings
pub brings-piece : (follow : Follow) (document behind piece : List ℕ)
    → Brings follow document behind (behind ++ piece) (answers follow document (lines behind) (lines_from (held behind) piece))
brings-piece = answers_to-append

module _ {F : Type 0} (has_followed : F → List ℕ → List Held → Type 0) (document : List ℕ) where
  -- the follower has answered the line that a line feed ends
  pub behind-fed : (before after : F) (stands stands_after : Held) (behind : List ℕ) (byte : ℕ) → (byte == 10) ≡ true
      → IsBehind has_followed document before stands behind
      → ((l : List Held) → has_followed before document l → has_followed after document (l ++ stands ∷ []))
      → stands_after ≡ Some [] → IsBehind has_followed document after stands_after (behind ++ byte ∷ [])
  behind-fed before after stands stands_after behind byte e is follows cleared = record {
    followed = subst (λ l. has_followed after document l)
        (ap (λ one. lines behind ++ one ∷ []) is.held_so ∙ ap (λ more. lines behind ++ more) (sym (lines-fed (held behind) byte e))
        ∙ sym (lines_from-append (Some []) behind (byte ∷ [])))
        (follows (lines behind) is.followed);
    held_so = cleared ∙ sym (held_after-append (Some []) behind (byte ∷ []) ∙ held-fed (held behind) byte e);
  }

  pub behind-held : (follower : F) (stands stands_after : Held) (behind : List ℕ) (byte : ℕ) → (byte == 10) ≡ false
      → IsBehind has_followed document follower stands behind → stands_after ≡ with_byte stands byte
      → IsBehind has_followed document follower stands_after (behind ++ byte ∷ [])
  behind-held follower stands stands_after behind byte e is pushed = record {
    followed = subst (λ l. has_followed follower document l)
        (sym (lines_from-append (Some []) behind (byte ∷ []) ∙ ap (λ more. lines behind ++ more) (lines-held (held behind) byte e) ∙ append-nil (lines behind)))
        is.followed;
    held_so = pushed ∙ ap (λ h. with_byte h byte) is.held_so ∙ sym (held_after-append (Some []) behind (byte ∷ []) ∙ held-held (held behind) byte e);
  }

-- ---- the end of input

ends : (follow : Follow) (document behind : List ℕ)
    → answers follow document [] (all_lines behind) ≡ answers_to follow document behind ++ answers follow document (lines behind) (last_line (held behind))
unfolding all_lines
ends follow document behind = answers-append follow document [] (lines behind) (last_line (held behind))

pub ends-whole : (follow : Follow) (document behind : List ℕ) (stands : Held) → stands ≡ held behind → is_nothing stands ≡ true → EndsWith follow document behind []
ends-whole follow document behind stands so none =
    let e : is_nothing (held behind) ≡ true = ap is_nothing (sym so) ∙ none in
    ends follow document behind
    ∙ ap (λ (v : Bool). answers_to follow document behind ++ answers follow document (lines behind) (cond v [] (None ∷ []))) e

pub ends-half : (follow : Follow) (document behind : List ℕ) (stands : Held) → stands ≡ held behind → is_nothing stands ≡ false
    → EndsWith follow document behind (follow.answer_of document (lines behind) None)
ends-half follow document behind stands so some =
    let e : is_nothing (held behind) ≡ false = ap is_nothing (sym so) ∙ some in
    ends follow document behind
    ∙ ap (λ (v : Bool). answers_to follow document behind ++ answers follow document (lines behind) (cond v [] (None ∷ []))) e
    ∙ ap (λ text. answers_to follow document behind ++ text) (append-nil (follow.answer_of document (lines behind) None))

-- ---- the front

behind-front : (follow : Follow) (front document : List ℕ) (lines_in : List ℕ → List Held) → (before : IsBefore follow front document) → (behind : List ℕ)
    → text_at lines_in follow (front ++ behind) (parts_of (front ++ behind)) ≡ follow.first_text document ++ answers follow document [] (lines_in behind)
behind-front follow front document lines_in before behind =
    ap (text_at lines_in follow (front ++ behind)) (before.found behind)
    ∙ ap (λ d. text_for follow d (lines_in (drop before.parts.end (front ++ behind)))) (before.document_so behind)
    ∙ ap (λ rest. text_for follow document (lines_in rest)) (before.behind_so behind)
    ∙ ap (λ (v : Bool). follow.first_text document ++ cond v (answers follow document [] (lines_in behind)) []) before.accepted

pub calls-behind : (follow : Follow) (front document : List ℕ) → IsBefore follow front document → (behind : List ℕ)
    → called_for follow (front ++ behind) ≡ follow.first_text document ++ answers_to follow document behind
calls-behind follow front document before behind = behind-front follow front document (lines_from (Some [])) before behind

pub follows-behind : (follow : Follow) (front document : List ℕ) → IsBefore follow front document → (behind : List ℕ)
    → follow_text follow (front ++ behind) ≡ follow.first_text document ++ answers follow document [] (all_lines behind)
follows-behind follow front document before behind = behind-front follow front document all_lines before behind

-- what brings answers brings what is called for
pub calls-more : (follow : Follow) (front document a b text : List ℕ) → IsBefore follow front document → Brings follow document a b text
    → called_for follow (front ++ b) ≡ called_for follow (front ++ a) ++ text
calls-more follow front document a b text before brings =
    calls-behind follow front document before b ∙ ap (λ more. follow.first_text document ++ more) brings
    ∙ sym (append_assoc (follow.first_text document) (answers_to follow document a) text)
    ∙ ap (λ more. more ++ text) (sym (calls-behind follow front document before a))

pub ends-more : (follow : Follow) (front document behind text : List ℕ) → IsBefore follow front document → EndsWith follow document behind text
    → follow_text follow (front ++ behind) ≡ called_for follow (front ++ behind) ++ text
ends-more follow front document behind text before with_text =
    follows-behind follow front document before behind ∙ ap (λ more. follow.first_text document ++ more) with_text
    ∙ sym (append_assoc (follow.first_text document) (answers_to follow document behind) text)
    ∙ ap (λ more. more ++ text) (sym (calls-behind follow front document before behind))
