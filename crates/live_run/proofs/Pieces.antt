-- Answers to a piece, byte for byte.
use Rattle.std.proofs.Common.{◌≡◌, ◌∙◌, ℕ, ◌+◌, ◌<◌, true, false, ◌==◌, List, [], ◌∷◌, ◌++◌, Option, ap, sym, subst, length, get_or, take, drop, append_assoc}
use Rattle.std.proofs.lemmas.List.{take_more, take-append-drop}
use Rattle.live_lines.specs.Cutting.{Held, lines_from}
use Rattle.live_stream.specs.Talk.{Talk}
use Rattle.live_run.specs.Follow.{Follow, answers}
use Rattle.live_run.specs.Answers.{AnswersPart, AnswersPiece, Brings, Gives, GivesFirst}
use Rattle.live_run.proofs.Giving.{Gives-append, Gives-nothing, GivesFirst-after, GivesFirst-longer}
use Rattle.live_run.proofs.LinesBehind.{brings-append, brings-fed, brings-held, brings-nothing, brings-piece, lines, held}

module _ (follow : Follow) (document : List ℕ) where
  pub piece-nothing : (talk : Option Talk) (behind : List ℕ) → AnswersPiece follow document talk talk behind behind
  piece-nothing talk behind = record { text = []; gives = Gives-nothing talk; brings = brings-nothing follow document behind }

  pub piece-append : (a b c : Option Talk) (x y z : List ℕ) → AnswersPiece follow document a b x y → AnswersPiece follow document b c y z → AnswersPiece follow document a c x z
  piece-append a b c x y z first second = record {
    text = first.text ++ second.text;
    gives = Gives-append a b c first.text second.text first.gives second.gives;
    brings = brings-append follow document x y z first.text second.text first.brings second.brings;
  }

  -- a first part of what comes behind, and of anything longer
  pub part-append : (a b c : Option Talk) (x y z rest : List ℕ) → AnswersPiece follow document a b x y → AnswersPart follow document b c y z → AnswersPart follow document a c x (z ++ rest)
  part-append a b c x y z rest first second =
      let more : List ℕ = answers follow document (lines z) (lines_from (held z) rest) in record {
        text = (first.text ++ second.text) ++ more;
        gives = GivesFirst-longer a c (first.text ++ second.text) more (GivesFirst-after a b c first.text second.text first.gives second.gives);
        brings = brings-append follow document x z (z ++ rest) (first.text ++ second.text) more
            (brings-append follow document x y z first.text second.text first.brings second.brings)
            (brings-piece follow document z rest);
      }

  -- one byte
  pub byte-fed : (a b : Option Talk) (now : List ℕ) (line : Held) (byte : ℕ) → (byte == 10) ≡ true → line ≡ held now
      → Gives a b (follow.answer_of document (lines now) line) → AnswersPiece follow document a b now (now ++ byte ∷ [])
  byte-fed a b now line byte e same gives = record {
    text = follow.answer_of document (lines now) line;
    gives = gives;
    brings = subst (λ h. Brings follow document now (now ++ byte ∷ []) (follow.answer_of document (lines now) h)) (sym same) (brings-fed follow document now byte e);
  }

  pub byte-fed-part : (a b : Option Talk) (now : List ℕ) (line : Held) (byte : ℕ) → (byte == 10) ≡ true → line ≡ held now
      → GivesFirst a b (follow.answer_of document (lines now) line) → AnswersPart follow document a b now (now ++ byte ∷ [])
  byte-fed-part a b now line byte e same gives = record {
    text = follow.answer_of document (lines now) line;
    gives = gives;
    brings = subst (λ h. Brings follow document now (now ++ byte ∷ []) (follow.answer_of document (lines now) h)) (sym same) (brings-fed follow document now byte e);
  }

  pub byte-held : (talk : Option Talk) (now : List ℕ) (byte : ℕ) → (byte == 10) ≡ false → AnswersPiece follow document talk talk now (now ++ byte ∷ [])
  byte-held talk now byte e = record { text = []; gives = Gives-nothing talk; brings = brings-held follow document now byte e }

-- the piece up to its next byte
pub next-byte : (behind piece : List ℕ) (k : ℕ) → k < length piece → (behind ++ take k piece) ++ get_or piece k 0 ∷ [] ≡ behind ++ take (k + 1) piece
next-byte behind piece k l = append_assoc behind (take k piece) (get_or piece k 0 ∷ []) ∙ ap (λ more. behind ++ more) (sym (take_more piece k 0 l))

-- and the rest of it
pub rest-of : (behind piece : List ℕ) (k : ℕ) → k < length piece → ((behind ++ take k piece) ++ get_or piece k 0 ∷ []) ++ drop (k + 1) piece ≡ behind ++ piece
rest-of behind piece k l =
    ap (λ front. front ++ drop (k + 1) piece) (next-byte behind piece k l) ∙ append_assoc behind (take (k + 1) piece) (drop (k + 1) piece)
    ∙ ap (λ more. behind ++ more) (take-append-drop (k + 1) piece)
