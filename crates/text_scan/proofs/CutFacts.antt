-- A text at the first of some byte: what a cut says of its place.
use Rattle.std.proofs.Common.{◌≡◌, ◌<◌, ◌==◌, ℕ, Bool, true, false, List, length, Some, None, refl, arith, not, ap, ◌∙◌, nat_lt}
use Rattle.std.specs.List.{position_or_len, before_first, after_first}
use Rattle.std.proofs.lemmas.List.Sums.{prefix_len-le-length}
use Rattle.std.proofs.lemmas.Bool.{ltb-true, ltb-false}
use Rattle.text_scan.specs.Cuts.{Cut, cut_at}

abbrev pub is_byte : ℕ → ℕ → Bool
is_byte byte other = other == byte

-- the text is cut at the first such byte
pub record IsCut (byte : ℕ) (text : List ℕ) (cut : Cut) : Type 0 where
  pub within : position_or_len (is_byte byte) text < length text
  pub before : cut.before ≡ before_first (is_byte byte) text
  pub behind : cut.behind ≡ after_first (is_byte byte) text

abbrev parts : ℕ → List ℕ → Cut
parts byte text = record { before = before_first (is_byte byte) text; behind = after_first (is_byte byte) text }

module _ (byte : ℕ) (text : List ℕ) where
  pub is_cut : (cut : Cut) → Some cut ≡ cut_at byte text → IsCut byte text cut
  unfolding cut_at
  is_cut cut e = go (nat_lt (position_or_len (is_byte byte) text) (length text)) refl where
    go : (b : Bool) → nat_lt (position_or_len (is_byte byte) text) (length text) ≡ b → IsCut byte text cut
    go false h = absurd (let f : Some cut ≡ None = e ∙ rw h refl in cc)
    go true h =
        let f : Some cut ≡ Some (parts byte text) = e ∙ rw h refl in
        let same : cut ≡ parts byte text = cc in
        record {
          within = ltb-true (position_or_len (is_byte byte) text) (length text) h;
          before = ap (λ (c : Cut). c.before) same;
          behind = ap (λ (c : Cut). c.behind) same;
        }

  -- there is no such byte
  pub no_cut : None ≡ cut_at byte text → position_or_len (is_byte byte) text ≡ length text
  unfolding cut_at
  no_cut e = go (nat_lt (position_or_len (is_byte byte) text) (length text)) refl where
    go : (b : Bool) → nat_lt (position_or_len (is_byte byte) text) (length text) ≡ b → position_or_len (is_byte byte) text ≡ length text
    go true h = absurd (let f : None ≡ Some (parts byte text) = e ∙ rw h refl in cc)
    go false h = omega (arith, ltb-false (position_or_len (is_byte byte) text) (length text) h, prefix_len-le-length (λ other. not (is_byte byte other)) text)
