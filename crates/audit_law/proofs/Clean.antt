-- The lines that are printed have no line feed, and their words no space.
use Rattle.std.proofs.Common.{◌≡◌, ◌≢◌, ◌<◌, ◌^◌, ◌==◌, ℕ, true, false, not, List, [], ◌∷◌, length, codes, decimal, refl, arith, inl, inr, All}
use Rattle.std.specs.List.{list_all}
use Rattle.std.proofs.lemmas.List.{get_or_past}
use Rattle.std.proofs.lemmas.List.Elements.{All-append, All-cons, All-head, All-nil, All-tail, All-weaker}
use Rattle.std.proofs.lemmas.Bool.{and_parts, cases_lt, ne_eqb, not-true}
use Rattle.bwe_specs.specs.declared.report.Target.{Target}
use Rattle.bwe_specs.specs.declared.report.Target.TheVariants.{Task, Link}
use Rattle.bwe_specs.specs.declared.report.Report.{Report}
use Rattle.text_scan.specs.Words.{words_of}
use Rattle.doc_names.specs.NameTexts.{IsPlain, NameTexts, entry_at}
use Rattle.audit_law.specs.ClosedRun.{AreNames}
use Rattle.audit_law.proofs.Numbers.{number_has_no}
use Rattle.audit_law.proofs.Lines.{HasNo, spaced, words_of-spaced}
use Rattle.audit_law.proofs.LineForms.{history_line, kind_of, name_of, reader_line, report_line, sent_line, shown_line}

-- a word of a line: no line feed and no space
abbrev pub IsClean : List ℕ → Type 0
IsClean word = HasNo 10 word × HasNo 32 word

tested : (byte : ℕ) (bytes : List ℕ) → list_all (λ b. not (b == byte)) bytes ≡ true → HasNo byte bytes
tested byte [] is = All-nil (λ b. (b == byte) ≡ false)
tested byte (first ∷ bytes) is =
    let parts = and_parts (not (first == byte)) (list_all (λ b. not (b == byte)) bytes) is in
    All-cons (λ b. (b == byte) ≡ false) first bytes (not-true (first == byte) parts.0) (tested byte bytes parts.1)

number_clean : (number : ℕ) → number < 2 ^ 64 → IsClean (decimal number)
number_clean number small = (number_has_no 10 number (omega arith) small, number_has_no 32 number (omega arith) small)

plain_clean : (name : List ℕ) → IsPlain name → IsClean name
plain_clean name plain = (
  All-weaker (λ byte. (byte ≢ 10) × (byte ≢ 32)) (λ b. (b == 10) ≡ false) (λ byte is. ne_eqb byte 10 is.0) name plain,
  All-weaker (λ byte. (byte ≢ 10) × (byte ≢ 32)) (λ b. (b == 32) ≡ false) (λ byte is. ne_eqb byte 32 is.1) name plain,
)

empty_clean : IsClean []
empty_clean = (All-nil (λ b. (b == 10) ≡ false), All-nil (λ b. (b == 32) ≡ false))

named_clean : (names : List (List ℕ)) (number : ℕ) → All IsPlain names → IsClean (entry_at names number)
named_clean names number plain = elim (cases_lt number (length names)) [
  | inl within ↦ plain_clean (entry_at names number) (plain number [] within)
  | inr past ↦ none (entry_at names number) (get_or_past names number [] past)
]
  where
    none : (name : List ℕ) → name ≡ [] → IsClean name
    none [] is = empty_clean
    none (byte ∷ name) is = absurd cc

-- clean words that are printed as a line are the line's words, and the line has no line feed
pub words_printed : (words : List (List ℕ)) → 0 < length words → All IsClean words → words_of (spaced words) ≡ words
words_printed words some clean = words_of-spaced words some (All-weaker IsClean (HasNo 32) (λ word is. is.1) words clean)

pub line_clean : (words : List (List ℕ)) → All IsClean words → HasNo 10 (spaced words)
line_clean [] clean = All-nil (λ b. (b == 10) ≡ false)
line_clean (word ∷ []) clean = (All-head IsClean word [] clean).0
line_clean (word ∷ next ∷ words) clean =
    All-append (λ b. (b == 10) ≡ false) word (32 ∷ spaced (next ∷ words)) (All-head IsClean word (next ∷ words) clean).0
    (All-cons (λ b. (b == 10) ≡ false) 32 (spaced (next ∷ words)) refl (line_clean (next ∷ words) (All-tail IsClean word (next ∷ words) clean)))

-- ---- each form

two : (a b : List ℕ) → IsClean a → IsClean b → All IsClean (a ∷ b ∷ [])
two a b ca cb = All-cons IsClean a (b ∷ []) ca (All-cons IsClean b [] cb (All-nil IsClean))

more : (a b : List ℕ) (words : List (List ℕ)) → IsClean a → IsClean b → All IsClean words → All IsClean (a ∷ b ∷ words)
more a b words ca cb rest = All-cons IsClean a (b ∷ words) ca (All-cons IsClean b words cb rest)

pub history_clean : (number : ℕ) → number < 2 ^ 64 → All IsClean (history_line number)
history_clean number small = two (codes "history") (decimal number) (tested 10 (codes "history") refl, tested 32 (codes "history") refl) (number_clean number small)

kind_clean : (target : Target) → IsClean (kind_of target)
kind_clean (Task number) = (tested 10 (codes "report") refl, tested 32 (codes "report") refl)
kind_clean (Link number) = (tested 10 (codes "capacity") refl, tested 32 (codes "capacity") refl)

target_clean : (names : NameTexts) → AreNames names → (target : Target) → IsClean (name_of names target)
target_clean names are (Task number) = named_clean names.tasks number are.tasks
target_clean names are (Link number) = named_clean names.links number are.links

pub report_clean : (names : NameTexts) → AreNames names → (place : ℕ) (report : Report) → place < 2 ^ 64 → report.amount < 2 ^ 64 → All IsClean (report_line names place report)
report_clean names are place report small fits =
    All-cons IsClean (kind_of report.target) (decimal place ∷ entry_at names.reporters report.reporter ∷ name_of names report.target ∷ decimal report.amount ∷ []) (kind_clean report.target)
    (more (decimal place) (entry_at names.reporters report.reporter) (name_of names report.target ∷ decimal report.amount ∷ []) (number_clean place small) (named_clean names.reporters report.reporter are.reporters)
    (two (name_of names report.target) (decimal report.amount) (target_clean names are report.target) (number_clean report.amount fits)))

pub sent_clean : (names : NameTexts) → AreNames names → (reporter sent : ℕ) → sent < 2 ^ 64 → All IsClean (sent_line names reporter sent)
sent_clean names are reporter sent small =
    more (codes "reporter") (entry_at names.reporters reporter) (codes "sent" ∷ decimal sent ∷ []) (tested 10 (codes "reporter") refl, tested 32 (codes "reporter") refl) (named_clean names.reporters reporter are.reporters)
    (two (codes "sent") (decimal sent) (tested 10 (codes "sent") refl, tested 32 (codes "sent") refl) (number_clean sent small))

pub reader_clean : (number length : ℕ) → number < 2 ^ 64 → length < 2 ^ 64 → All IsClean (reader_line number length)
reader_clean number length small few =
    more (codes "reader") (decimal number) (codes "length" ∷ decimal length ∷ []) (tested 10 (codes "reader") refl, tested 32 (codes "reader") refl) (number_clean number small)
    (two (codes "length") (decimal length) (tested 10 (codes "length") refl, tested 32 (codes "length") refl) (number_clean length few))

pub shown_clean : (kind : List ℕ) (floor prefix total : ℕ) → IsClean kind → floor < 2 ^ 64 → prefix < 2 ^ 64 → total < 2 ^ 64 → All IsClean (shown_line kind floor prefix total)
shown_clean kind floor prefix total clean low covers sum =
    more kind (codes "floor") (decimal floor ∷ codes "prefix" ∷ decimal prefix ∷ codes "total" ∷ decimal total ∷ []) clean (tested 10 (codes "floor") refl, tested 32 (codes "floor") refl)
    (more (decimal floor) (codes "prefix") (decimal prefix ∷ codes "total" ∷ decimal total ∷ []) (number_clean floor low) (tested 10 (codes "prefix") refl, tested 32 (codes "prefix") refl)
    (All-cons IsClean (decimal prefix) (codes "total" ∷ decimal total ∷ []) (number_clean prefix covers)
    (two (codes "total") (decimal total) (tested 10 (codes "total") refl, tested 32 (codes "total") refl) (number_clean total sum))))

pub read_clean : IsClean (codes "read")
read_clean = (tested 10 (codes "read") refl, tested 32 (codes "read") refl)

pub final_clean : IsClean (codes "final")
final_clean = (tested 10 (codes "final") refl, tested 32 (codes "final") refl)
