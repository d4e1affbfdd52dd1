-- A number that is the same is printed the same, and one that differs is not.
use Rattle.std.proofs.Common.{◌≡◌, ◌≢◌, ℕ, ◌<◌, ◌^◌, ◌==◌, Bool, true, false, cond, List, [], ◌∷◌, ◌++◌, drop, flat_map, length, get_or, refl, sym, ap, ap₂, ◌∙◌, append_assoc, arith, T}
use Rattle.std.specs.Prelude.{codes, decimal, slice_index, Result, Ok, Err, OnOk, is_ok, if◌then◌else◌}
use Rattle.std.specs.Str.{bytes_eq}
use Rattle.std.proofs.lemmas.Fmt.{decimal_injective}
use Rattle.std.proofs.lemmas.List.{append-nil, append_cancel_left, append_cancel_right, get_or_default}
use Rattle.std.proofs.lemmas.List.Elements.{All-head, All-tail}
use Rattle.std.proofs.lemmas.Slice.Eq.{bytes_eq-Decides}
use Rattle.std.proofs.Math.Facts.{yes_eqb}
use Rattle.bwe_specs.specs.Allocation.{GroupLine}
use Rattle.bwe_specs.specs.Reports.{numbers}
use Rattle.doc_names.specs.NameTexts.{NameTexts, entry_at}
use Rattle.table_text.specs.TableText.{group_lines, place_line, value_line}
use Rattle.change_text.specs.ChangeText.{changed}
use Rattle.change_text.proofs.RowFacts.{HasNo, no-decimal}

-- ---- what is printed the same, and what is not

pub same_lines : (earlier later : ℕ → List ℕ) (number : ℕ) → earlier number ≡ later number → changed earlier later number ≡ []
unfolding changed
same_lines earlier later number e = rw ((bytes_eq-Decides (earlier number) (later number)).1 e) refl

pub other_lines : (earlier later : ℕ → List ℕ) (number : ℕ) → earlier number ≢ later number → changed earlier later number ≡ later number
unfolding changed
other_lines earlier later number differ = go (bytes_eq (earlier number) (later number)) refl
  where
    go : (b : Bool) → bytes_eq (earlier number) (later number) ≡ b → cond b [] (later number) ≡ later number
    go true e = absurd (differ ((bytes_eq-Decides (earlier number) (later number)).0 e))
    go false e = refl

-- the same of what was printed
pub same_texts : (earlier later : ℕ → List ℕ) (number : ℕ) (before after : List ℕ) → before ≡ earlier number → after ≡ later number → bytes_eq before after ≡ true → changed earlier later number ≡ []
unfolding changed
same_texts earlier later number before after e f h = let same = rw (e, f) at h in rw same refl

pub other_texts : (earlier later : ℕ → List ℕ) (number : ℕ) (before after : List ℕ) → before ≡ earlier number → after ≡ later number → bytes_eq before after ≡ false → changed earlier later number ≡ later number
unfolding changed
other_texts earlier later number before after e f h = let differ = rw (e, f) at h in rw differ refl

pub nothing_put : (text piece : List ℕ) → piece ≡ [] → text ≡ text ++ piece
nothing_put text piece e = sym (ap (λ (p : List ℕ). text ++ p) e ∙ append-nil text)

pub piece_put : {T E : Type 0} (result : Result T E) (old new piece whole : List ℕ) → new ≡ (if is_ok result then old ++ piece else old) → piece ≡ whole → OnOk result (new ≡ old ++ whole)
piece_put (Ok x) old new piece whole h e = h ∙ ap (λ (p : List ℕ). old ++ p) e
piece_put (Err x) old new piece whole h e = tt

pub ok_put : {T E : Type 0} (result : Result T E) (old new piece whole : List ℕ) → OnOk result (new ≡ old ++ piece) → piece ≡ whole → OnOk result (new ≡ old ++ whole)
ok_put (Ok x) old new piece whole h e = h ∙ ap (λ (p : List ℕ). old ++ p) e
ok_put (Err x) old new piece whole h e = tt

-- ---- texts that end at a byte

-- ++ is read from the left
from-right : (p a b c d e : List ℕ) → p ++ a ++ b ++ c ++ d ++ e ≡ p ++ (a ++ (b ++ (c ++ (d ++ e))))
from-right p a b c d e =
    append_assoc (p ++ a ++ b ++ c) d e ∙ append_assoc (p ++ a ++ b) c (d ++ e) ∙ append_assoc (p ++ a) b (c ++ (d ++ e)) ∙ append_assoc p a (b ++ (c ++ (d ++ e)))

abbrev first : List ℕ → ℕ
first bytes = get_or bytes 0 0

other_byte : (byte b : ℕ) → (b == byte) ≡ false → b ≡ byte → ⊥
other_byte byte b differs same =
    let yes : T (b == byte) = yes_eqb {a = b} {b = byte} same in
    rw differs at yes

-- what stands before the first such byte of two equal texts is one, and so is what stands behind it
until_byte : (byte : ℕ) (one two rest other : List ℕ) → HasNo byte one → HasNo byte two → one ++ (byte ∷ rest) ≡ two ++ (byte ∷ other) → (one ≡ two) × (rest ≡ other)
until_byte byte [] [] rest other has also e = (refl, ap (drop 1) e)
until_byte byte [] (b ∷ two) rest other has also e = absurd (other_byte byte b (All-head (λ b. (b == byte) ≡ false) b two also) (sym (ap first e)))
until_byte byte (b ∷ one) [] rest other has also e = absurd (other_byte byte b (All-head (λ b. (b == byte) ≡ false) b one has) (ap first e))
until_byte byte (b ∷ one) (c ∷ two) rest other has also e =
    let more = until_byte byte one two rest other (All-tail (λ b. (b == byte) ≡ false) b one has) (All-tail (λ b. (b == byte) ≡ false) c two also) (ap (drop 1) e) in
    (ap₂ (λ (x : ℕ) (xs : List ℕ). x ∷ xs) (ap first e) more.0, more.1)

-- a row of two numbers, with what follows it
two_numbers : (front : List ℕ) (m n k l : ℕ) (rest other : List ℕ)
    → front ++ decimal m ++ codes " amount " ++ decimal k ++ codes "\n" ++ rest ≡ front ++ decimal n ++ codes " amount " ++ decimal l ++ codes "\n" ++ other
    → (decimal m ≡ decimal n) × (decimal k ≡ decimal l)
two_numbers front m n k l rest other e = (one.0, two.0)
  where
    from_front : decimal m ++ (codes " amount " ++ (decimal k ++ (codes "\n" ++ rest))) ≡ decimal n ++ (codes " amount " ++ (decimal l ++ (codes "\n" ++ other)))
    from_front =
        append_cancel_left front _ _
        (sym (from-right front (decimal m) (codes " amount ") (decimal k) (codes "\n") rest) ∙ e ∙ from-right front (decimal n) (codes " amount ") (decimal l) (codes "\n") other)

    one : (decimal m ≡ decimal n) × (codes "amount " ++ (decimal k ++ (codes "\n" ++ rest)) ≡ codes "amount " ++ (decimal l ++ (codes "\n" ++ other)))
    one = until_byte 32 (decimal m) (decimal n) _ _ (no-decimal 32 (omega arith) m) (no-decimal 32 (omega arith) n) from_front

    two : (decimal k ≡ decimal l) × (rest ≡ other)
    two =
        until_byte 10 (decimal k) (decimal l) rest other (no-decimal 10 (omega arith) k) (no-decimal 10 (omega arith) l)
        (append_cancel_left (codes "amount ") _ _ one.1)

-- ---- groups

pub same_group : (names : NameTexts) (earlier later : List GroupLine) (group : ℕ) (line other : GroupLine) → group < length earlier → group < length later
    → line ≡ get_or earlier group line → other ≡ get_or later group other → line ≡ other → changed (group_lines names earlier) (group_lines names later) group ≡ []
same_group names earlier later group line other l m is other_is e =
    same_lines (group_lines names earlier) (group_lines names later) group (rw same refl)
  where
    none : GroupLine
    none = record { share = 0; amount = 0; places = [] }

    same : get_or earlier group (record { share = 0; amount = 0; places = [] }) ≡ get_or later group (record { share = 0; amount = 0; places = [] })
    same = get_or_default earlier group none line l ∙ sym is ∙ e ∙ other_is ∙ get_or_default later group other none m

-- another share or another amount is another text
pub other_group : (names : NameTexts) (earlier later : List GroupLine) (group : ℕ) (line other : GroupLine) → group < length earlier → group < length later
    → line ≡ get_or earlier group line → other ≡ get_or later group other → ((decimal line.share ≡ decimal other.share) × (decimal line.amount ≡ decimal other.amount) → ⊥)
    → changed (group_lines names earlier) (group_lines names later) group ≡ group_lines names later group
other_group names earlier later group line other l m is other_is differ =
    other_lines (group_lines names earlier) (group_lines names later) group (λ e. differ (numbers_of (sym earlier_is ∙ e ∙ later_is)))
  where
    none : GroupLine
    none = record { share = 0; amount = 0; places = [] }

    lines : GroupLine → List ℕ
    lines it =
        codes "group " ++ entry_at names.groups group ++ codes " share " ++ decimal it.share ++ codes " amount " ++ decimal it.amount ++ codes "\n"
        ++ flat_map (place_line names it.places) (numbers (length it.places))

    earlier_is : group_lines names earlier group ≡ lines line
    earlier_is = ap lines (get_or_default earlier group none line l ∙ sym is)

    later_is : group_lines names later group ≡ lines other
    later_is = ap lines (get_or_default later group none other m ∙ sym other_is)

    numbers_of : lines line ≡ lines other → (decimal line.share ≡ decimal other.share) × (decimal line.amount ≡ decimal other.amount)
    numbers_of e = two_numbers (codes "group " ++ entry_at names.groups group ++ codes " share ") line.share other.share line.amount other.amount _ _ e

-- ---- numbers

-- two texts of one number each, between the same pieces
apart : (before after : List ℕ) (m n : ℕ) → m < 2 ^ 64 → n < 2 ^ 64 → before ++ decimal m ++ after ≡ before ++ decimal n ++ after → m ≡ n
apart before after m n small few e =
    decimal_injective m n small few (append_cancel_left before (decimal m) (decimal n) (append_cancel_right (before ++ decimal m) (before ++ decimal n) after e))

pub same_value : (word between : List ℕ) (names : List (List ℕ)) (earlier later : List ℕ) (number : ℕ) → slice_index earlier number ≡ slice_index later number
    → changed (value_line word between names earlier) (value_line word between names later) number ≡ []
same_value word between names earlier later number e =
    same_lines (value_line word between names earlier) (value_line word between names later) number (ap (λ (n : ℕ). word ++ entry_at names number ++ between ++ decimal n ++ codes "\n") e)

pub other_value : (word between : List ℕ) (names : List (List ℕ)) (earlier later : List ℕ) (number : ℕ) → slice_index earlier number < 2 ^ 64 → slice_index later number < 2 ^ 64
    → slice_index earlier number ≢ slice_index later number
    → changed (value_line word between names earlier) (value_line word between names later) number ≡ value_line word between names later number
other_value word between names earlier later number small few differ =
    other_lines (value_line word between names earlier) (value_line word between names later) number
    (λ e. differ (apart (word ++ entry_at names number ++ between) (codes "\n") (slice_index earlier number) (slice_index later number) small few e))
