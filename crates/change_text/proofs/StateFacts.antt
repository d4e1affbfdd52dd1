-- The line of a report means that report.
use Rattle.std.proofs.Common.{inl, inr, ◌≡◌, ℕ, ◌<◌, ◌≤◌, ◌^◌, Bool, true, false, List, [], ◌∷◌, ◌++◌, length, get_or, Some, refl, sym, ap, subst, ◌∙◌, arith, eq-eqb, length-append, append_assoc}
use Rattle.std.specs.Prelude.{All, ◌==◌, codes, decimal, nat_le, nat_lt, Ok}
use Rattle.std.specs.Char.{is_ascii_digit}
use Rattle.std.specs.List.{list_all}
use Rattle.std.specs.Str.{IsAscii, all_ascii_digits, is_utf8}
use Rattle.std.proofs.lemmas.Bool.{and_parts, cases_lt, le-leb, leb-true, lt-ltb, ltb-true, ne_eqb}
use Rattle.std.proofs.lemmas.Fmt.{decimal_nonempty, digits_decimal, digits_value-decimal, length-decimal-le}
use Rattle.std.proofs.lemmas.List.{get_or_past}
use Rattle.std.proofs.lemmas.List.Splits.{slice_split_at, slice_split_none}
use Rattle.std.proofs.lemmas.List.Sums.{AllPass-from_list_all}
use Rattle.std.proofs.lemmas.Str.{IsAscii-append, IsUtf8-from_ascii, is_utf8-from_IsUtf8}
use Rattle.bwe_specs.specs.declared.limits.TheConstants.{MAX_AMOUNT}
use Rattle.bwe_specs.specs.declared.report.Report.{Report}
use Rattle.bwe_specs.specs.declared.report.Target.{Target}
use Rattle.bwe_specs.specs.declared.report.Target.TheVariants.{Task, Link}
use Rattle.bwe_specs.specs.Fit.{IsInRange}
use Rattle.text_scan.specs.Names.{number_of_name}
use Rattle.text_scan.specs.Numbers.{is_number, number_of}
use Rattle.text_scan.specs.Words.{Text, words_of}
use Rattle.text_scan.proofs.NumberFacts.{ascii_numerals}
use Rattle.doc_names.specs.NameTexts.{entry_at}
use Rattle.live_lines.specs.declared.line.LineMeaning.TheVariants.{NewReport}
use Rattle.live_lines.specs.Known.{Known, owner_of}
use Rattle.live_lines.specs.Cutting.{within}
use Rattle.live_lines.specs.Meaning.{amount_of, meaning_of, meaning_of_words, report_of, reported, target_named}
use Rattle.change_text.specs.StateText.{report_words}
use Rattle.change_text.specs.StateLaw.{is_plain, AreReadable, StateLinesAreRead}

abbrev is_space : ℕ → Bool
is_space byte = byte == 32

-- ---- plain texts

-- each byte is of ASCII and above the space
record IsAt (byte : ℕ) : Type 0 where
  above : 32 < byte
  below : byte < 128

at : (text : Text) (k d : ℕ) → list_all is_plain text ≡ true → k < length text → IsAt (get_or text k d)
at text k d e l =
    let parts = and_parts (nat_lt 32 (get_or text k d)) (nat_lt (get_or text k d) 128) (AllPass-from_list_all is_plain text e k d l) in
    record { above = ltb-true 32 (get_or text k d) parts.0; below = ltb-true (get_or text k d) 128 parts.1 }

clear : (text : Text) → list_all is_plain text ≡ true → All (λ byte. is_space byte ≡ false) text
clear text e = λ k d l. let is = at text k d e l in ne_eqb (get_or text k d) 32 (λ same. omega (arith, is.above, same))

ascii : (text : Text) → list_all is_plain text ≡ true → IsAscii text
ascii text e = λ i. elim (cases_lt i (length text)) [
  | inl inside ↦ (at text i 0 e inside).below
  | inr past ↦ omega (arith, get_or_past text i 0 past)
]

plain_digits : (text : Text) → all_ascii_digits text ≡ true → list_all is_plain text ≡ true
plain_digits [] e = refl
plain_digits (digit ∷ text) e =
    let parts = and_parts (is_ascii_digit digit) (all_ascii_digits text) e in
    let range = and_parts (nat_le 48 digit) (nat_le digit 57) parts.0 in
    rw (
      lt-ltb 32 digit (omega (arith, leb-true 48 digit range.0)),
      lt-ltb digit 128 (omega (arith, leb-true digit 57 range.1)),
    ) (plain_digits text parts.1)

-- ---- amounts

pub printed_is_number : (amount : ℕ) → amount < 2 ^ 64 → is_number (decimal amount) ≡ true
printed_is_number amount small = rw (
  digits_decimal ascii_numerals amount small,
  le-leb 1 (length (decimal amount)) (decimal_nonempty amount small),
  le-leb (length (decimal amount)) 20 (length-decimal-le 20 amount (omega arith) (omega (arith, small)) small),
) refl

pub printed_amount : (amount : ℕ) → amount ≤ MAX_AMOUNT → amount_of (decimal amount) ≡ Some amount
unfolding amount_of number_of
printed_amount amount few =
    let small : amount < 2 ^ 64 = omega (arith, few) in
    rw (
      printed_is_number amount small,
      digits_value-decimal ascii_numerals amount small,
      lt-ltb amount 18446744073709551616 (omega (arith, small)),
      le-leb amount MAX_AMOUNT few,
    ) refl

-- ---- four words

four : (a b c d : Text) → list_all is_plain a ≡ true → list_all is_plain b ≡ true → list_all is_plain c ≡ true → list_all is_plain d ≡ true
    → words_of (a ++ 32 ∷ (b ++ 32 ∷ (c ++ 32 ∷ d))) ≡ a ∷ b ∷ c ∷ d ∷ []
unfolding words_of
four a b c d pa pb pc pd =
    slice_split_at is_space a 32 (b ++ 32 ∷ (c ++ 32 ∷ d)) (clear a pa) refl
    ∙ ap (λ (words : List Text). a ∷ words) (slice_split_at is_space b 32 (c ++ 32 ∷ d) (clear b pb) refl
    ∙ ap (λ (words : List Text). b ∷ words) (slice_split_at is_space c 32 d (clear c pc) refl
    ∙ ap (λ (words : List Text). c ∷ words) (slice_split_none is_space d (clear d pd))))

blank : IsAscii (32 ∷ [])
blank = λ i. elim (cases_lt i 1) [
  | inl inside ↦ let first : i ≡ 0 = omega (arith, inside) in rw first (omega arith)
  | inr past ↦ omega (arith, get_or_past {X = ℕ} (32 ∷ []) i 0 past)
]

behind : (a b : Text) → IsAscii a → IsAscii b → IsAscii (a ++ 32 ∷ b)
behind a b pa pb = IsAscii-append a (32 ∷ b) pa (IsAscii-append (32 ∷ []) b blank pb)

four_are_text : (a b c d : Text) → list_all is_plain a ≡ true → list_all is_plain b ≡ true → list_all is_plain c ≡ true → list_all is_plain d ≡ true
    → is_utf8 (a ++ 32 ∷ (b ++ 32 ∷ (c ++ 32 ∷ d))) ≡ true
four_are_text a b c d pa pb pc pd =
    let whole = behind a (b ++ 32 ∷ (c ++ 32 ∷ d)) (ascii a pa) (behind b (c ++ 32 ∷ d) (ascii b pb) (behind c d (ascii c pc) (ascii d pd))) in
    is_utf8-from_IsUtf8 (a ++ 32 ∷ (b ++ 32 ∷ (c ++ 32 ∷ d))) (IsUtf8-from_ascii (a ++ 32 ∷ (b ++ 32 ∷ (c ++ 32 ∷ d))) whole)

said : (known : Known) (report : Report) (a b c d : Text) → list_all is_plain a ≡ true → list_all is_plain b ≡ true → list_all is_plain c ≡ true → list_all is_plain d ≡ true
    → report_of known a b c d ≡ Ok report → meaning_of known (Some (a ++ 32 ∷ (b ++ 32 ∷ (c ++ 32 ∷ d)))) ≡ NewReport report
unfolding meaning_of meaning_of_words
said known report a b c d pa pb pc pd is = rw (four_are_text a b c d pa pb pc pd, four a b c d pa pb pc pd) (ap reported is)

-- ---- reports

some_word : (text : Text) → 1 ≤ length text → nat_lt 0 (length text) ≡ true
some_word text some = lt-ltb 0 (length text) (omega (arith, some))

demand_of : (known : Known) (reporter task amount : ℕ) (r t : Text) → 1 ≤ length r → 1 ≤ length t → number_of_name known.names.reporters r ≡ Some reporter → number_of_name known.names.tasks t ≡ Some task
    → amount ≤ MAX_AMOUNT → owner_of known.task_owners known.link_owners (Task task) ≡ Some reporter
    → report_of known (codes "demand") r t (decimal amount) ≡ Ok (record { reporter = reporter; target = Task task; amount = amount })
unfolding report_of target_named
demand_of known reporter task amount r t some_r some_t is_r is_t few owned =
    let small : amount < 2 ^ 64 = omega (arith, few) in
    rw (some_word r some_r, some_word t some_t, printed_is_number amount small, is_r, is_t, printed_amount amount few, owned, eq-eqb reporter reporter refl) refl

capacity_of : (known : Known) (reporter link amount : ℕ) (r t : Text) → 1 ≤ length r → 1 ≤ length t → number_of_name known.names.reporters r ≡ Some reporter → number_of_name known.names.links t ≡ Some link
    → amount ≤ MAX_AMOUNT → owner_of known.task_owners known.link_owners (Link link) ≡ Some reporter
    → report_of known (codes "capacity") r t (decimal amount) ≡ Ok (record { reporter = reporter; target = Link link; amount = amount })
unfolding report_of target_named
capacity_of known reporter link amount r t some_r some_t is_r is_t few owned =
    let small : amount < 2 ^ 64 = omega (arith, few) in
    rw (some_word r some_r, some_word t some_t, printed_is_number amount small, is_r, is_t, printed_amount amount few, owned, eq-eqb reporter reporter refl) refl

-- ---- the whole line

shape : (a b c d : Text) → (((((a ++ 32 ∷ []) ++ b) ++ 32 ∷ []) ++ c) ++ 32 ∷ []) ++ d ≡ a ++ 32 ∷ (b ++ 32 ∷ (c ++ 32 ∷ d))
shape a b c d = simp append_assoc

short : (a b c d : Text) → length a ≤ 8 → length b ≤ 64 → length c ≤ 64 → length d ≤ 20 → within (a ++ 32 ∷ (b ++ 32 ∷ (c ++ 32 ∷ d))) ≡ Some (a ++ 32 ∷ (b ++ 32 ∷ (c ++ 32 ∷ d)))
short a b c d la lb lc ld =
    let few : length (a ++ 32 ∷ (b ++ 32 ∷ (c ++ 32 ∷ d))) ≤ 255 = simp length-append (omega (arith, la, lb, lc, ld)) in
    rw (le-leb (length (a ++ 32 ∷ (b ++ 32 ∷ (c ++ 32 ∷ d)))) 255 few) refl

-- what is said of a line in its shape
abbrev IsRead : Known → Report → Text → Type 0
IsRead known report line = (within line ≡ Some line) × (meaning_of known (Some line) ≡ NewReport report)

by_target : (known : Known) (reporter amount : ℕ) (target : Target) → AreReadable known → reporter < length known.names.reporters
    → IsInRange (length known.names.tasks) (length known.names.links) target → amount ≤ MAX_AMOUNT → owner_of known.task_owners known.link_owners target ≡ Some reporter
    → IsRead known (record { reporter = reporter; target = target; amount = amount }) (report_words known.names reporter target ++ codes " " ++ decimal amount)
unfolding report_words
by_target known reporter amount (Task task) names there in_range few owned =
    let small : amount < 2 ^ 64 = omega (arith, few) in
    let r = names.reporters reporter there in
    let t = names.tasks task in_range in
    let digits = plain_digits (decimal amount) (digits_decimal ascii_numerals amount small) in
    subst (λ (line : Text). IsRead known (record { reporter = reporter; target = Task task; amount = amount }) line)
    (sym (shape (codes "demand") (entry_at known.names.reporters reporter) (entry_at known.names.tasks task) (decimal amount))) (
      short (codes "demand") (entry_at known.names.reporters reporter) (entry_at known.names.tasks task) (decimal amount) (omega arith) r.0.few t.0.few (length-decimal-le 20 amount (omega arith) (omega (arith, small)) small),
      said known (record { reporter = reporter; target = Task task; amount = amount }) (codes "demand") (entry_at known.names.reporters reporter) (entry_at known.names.tasks task) (decimal amount) refl r.0.plain t.0.plain digits
          (demand_of known reporter task amount (entry_at known.names.reporters reporter) (entry_at known.names.tasks task) r.0.some t.0.some r.1 t.1 few owned),
    )
by_target known reporter amount (Link link) names there in_range few owned =
    let small : amount < 2 ^ 64 = omega (arith, few) in
    let r = names.reporters reporter there in
    let t = names.links link in_range in
    let digits = plain_digits (decimal amount) (digits_decimal ascii_numerals amount small) in
    subst (λ (line : Text). IsRead known (record { reporter = reporter; target = Link link; amount = amount }) line)
    (sym (shape (codes "capacity") (entry_at known.names.reporters reporter) (entry_at known.names.links link) (decimal amount))) (
      short (codes "capacity") (entry_at known.names.reporters reporter) (entry_at known.names.links link) (decimal amount) (omega arith) r.0.few t.0.few (length-decimal-le 20 amount (omega arith) (omega (arith, small)) small),
      said known (record { reporter = reporter; target = Link link; amount = amount }) (codes "capacity") (entry_at known.names.reporters reporter) (entry_at known.names.links link) (decimal amount) refl r.0.plain t.0.plain digits
          (capacity_of known reporter link amount (entry_at known.names.reporters reporter) (entry_at known.names.links link) r.0.some t.0.some r.1 t.1 few owned),
    )

pub lines_are_read : StateLinesAreRead
lines_are_read = λ known report names there fit owned. by_target known report.reporter report.amount report.target names there fit.0 fit.1 owned
