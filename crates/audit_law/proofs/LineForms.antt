-- The form of each line, there and back.
use Rattle.std.proofs.Common.{◌≡◌, ◌<◌, ◌+◌, ◌^◌, ◌==◌, ◌&&◌, ℕ, zero, suc, Bool, true, false, cond, List, [], ◌∷◌, length, get_or, drop, codes, decimal, Option, Some, None, refl, sym, ap, ◌∙◌, arith}
use Rattle.std.specs.Prelude.{nat_lt, position}
use Rattle.std.specs.List.{list_any, position_or_len}
use Rattle.std.specs.Str.{bytes_eq}
use Rattle.std.proofs.lemmas.List.{drop_more, drop_all}
use Rattle.std.proofs.lemmas.List.Folds.{list_any_at}
use Rattle.std.proofs.lemmas.List.Sums.{position_or_len_is}
use Rattle.std.proofs.lemmas.List.Quantifiers.{position-Some}
use Rattle.std.proofs.lemmas.Bool.{and_parts, and_from, or_left, eqb-true, lt-ltb, false_from_ne_true}
use Rattle.std.proofs.lemmas.Slice.Eq.{bytes_eq-Decides}
use Rattle.bwe_specs.specs.declared.report.Target.{Target}
use Rattle.bwe_specs.specs.declared.report.Target.TheVariants.{Task, Link}
use Rattle.bwe_specs.specs.declared.report.Report.{Report}
use Rattle.text_scan.specs.Numbers.{printed_number_of}
use Rattle.run_audit.specs.Words.{is_known, is_word, number_at}
use Rattle.doc_names.specs.NameTexts.{NameTexts, entry_at}
use Rattle.run_audit.specs.Forms.{history_of, is_of_known, reader_of, reader_words, report_of, report_words, sent_of, shown_of, shown_words}
use Rattle.run_audit.specs.History.{is_of}
use Rattle.run_audit.specs.declared.forms.ReportWords.{ReportWords}
use Rattle.run_audit.specs.declared.forms.ReaderWords.{ReaderWords}
use Rattle.run_audit.specs.declared.forms.Shown.{Shown}
use Rattle.audit_law.specs.ClosedRun.{AreNames}
use Rattle.text_scan.proofs.NumberFacts.{number_printed, number_read}

-- ---- the words of each line

abbrev pub history_line : ℕ → List (List ℕ)
history_line number = codes "history" ∷ decimal number ∷ []

abbrev pub kind_of : Target → List ℕ
kind_of (Task number) = codes "report"
kind_of (Link number) = codes "capacity"

abbrev pub name_of : NameTexts → Target → List ℕ
name_of names (Task number) = entry_at names.tasks number
name_of names (Link number) = entry_at names.links number

abbrev pub report_line : NameTexts → ℕ → Report → List (List ℕ)
report_line names place report =
    kind_of report.target ∷ decimal place ∷ entry_at names.reporters report.reporter ∷ name_of names report.target ∷ decimal report.amount ∷ []

abbrev pub sent_line : NameTexts → ℕ → ℕ → List (List ℕ)
sent_line names reporter sent = codes "reporter" ∷ entry_at names.reporters reporter ∷ codes "sent" ∷ decimal sent ∷ []

abbrev pub reader_line : ℕ → ℕ → List (List ℕ)
reader_line number length = codes "reader" ∷ decimal number ∷ codes "length" ∷ decimal length ∷ []

abbrev pub shown_line : List ℕ → ℕ → ℕ → ℕ → List (List ℕ)
shown_line kind floor prefix total = kind ∷ codes "floor" ∷ decimal floor ∷ codes "prefix" ∷ decimal prefix ∷ codes "total" ∷ decimal total ∷ []

-- ---- words by their places

abbrev listed : ℕ → ℕ → List (List ℕ) → List (List ℕ)
listed place zero words = []
listed place (suc count) words = entry_at words place ∷ listed (place + 1) count words

listed_from : (place count : ℕ) (words : List (List ℕ)) → length words ≡ place + count → drop place words ≡ listed place count words
listed_from place zero words is = drop_all place words (omega (arith, is))
listed_from place (suc count) words is =
    drop_more words place [] (omega (arith, is)) ∙ ap (λ (rest : List (List ℕ)). entry_at words place ∷ rest) (listed_from (place + 1) count words (omega (arith, is)))

pub same_bytes : (one two : List ℕ) → bytes_eq one two ≡ true → one ≡ two
same_bytes one two is = (bytes_eq-Decides one two).0 is

pub itself : (bytes : List ℕ) → bytes_eq bytes bytes ≡ true
itself bytes = (bytes_eq-Decides bytes bytes).1 refl

-- what a test lets through
passed : {A : Type 0} (b : Bool) (answer : Option A) (x : A) → cond b answer None ≡ Some x → (b ≡ true) × (answer ≡ Some x)
passed true answer x is = (refl, is)
passed false answer x is = absurd cc

-- ---- `history`

pub history_printed : (number : ℕ) → number < 2 ^ 64 → history_of (history_line number) ≡ Some number
unfolding history_of
history_printed number small = number_printed number small

pub history_read : (words : List (List ℕ)) (number : ℕ) → history_of words ≡ Some number → words ≡ history_line number
unfolding history_of
history_read words number is =
    let parts = passed ((length words == 2) && is_word words 0 (codes "history")) (number_at words 1) number is in
    let tests = and_parts (length words == 2) (is_word words 0 (codes "history")) parts.0 in
    let all : words ≡ entry_at words 0 ∷ entry_at words 1 ∷ [] = listed_from 0 2 words (eqb-true (length words) 2 tests.0) in
    let first : entry_at words 0 ≡ codes "history" = same_bytes (entry_at words 0) (codes "history") tests.1 in
    let second : entry_at words 1 ≡ decimal number = (number_read (entry_at words 1) number parts.1).0 in
    all ∙ ap (λ (w : List ℕ). w ∷ entry_at words 1 ∷ []) first ∙ ap (λ (w : List ℕ). codes "history" ∷ w ∷ []) second

-- ---- `reporter`

pub sent_printed : (names : NameTexts) (reporter sent : ℕ) → reporter < length names.reporters → sent < 2 ^ 64 → sent_of names (sent_line names reporter sent) ≡ Some sent
unfolding sent_of
sent_printed names reporter sent within small =
    ap (λ (b : Bool). cond b (printed_number_of (decimal sent)) None)
    (list_any_at (bytes_eq (entry_at names.reporters reporter)) names.reporters reporter [] within (itself (entry_at names.reporters reporter)))
    ∙ number_printed sent small

pub sent_read : (names : NameTexts) (words : List (List ℕ)) (reporter sent : ℕ) → sent_of names words ≡ Some sent → bytes_eq (entry_at words 1) (entry_at names.reporters reporter) ≡ true
    → words ≡ sent_line names reporter sent
unfolding sent_of
sent_read names words reporter sent is named =
    let parts = passed ((length words == 4) && (is_word words 0 (codes "reporter") && (is_word words 2 (codes "sent") && is_known names.reporters (entry_at words 1)))) (number_at words 3) sent is in
    let four = and_parts (length words == 4) (is_word words 0 (codes "reporter") && (is_word words 2 (codes "sent") && is_known names.reporters (entry_at words 1))) parts.0 in
    let tests = and_parts (is_word words 0 (codes "reporter")) (is_word words 2 (codes "sent") && is_known names.reporters (entry_at words 1)) four.1 in
    let third_test = and_parts (is_word words 2 (codes "sent")) (is_known names.reporters (entry_at words 1)) tests.1 in
    let all : words ≡ entry_at words 0 ∷ entry_at words 1 ∷ entry_at words 2 ∷ entry_at words 3 ∷ [] = listed_from 0 4 words (eqb-true (length words) 4 four.0) in
    let first : entry_at words 0 ≡ codes "reporter" = same_bytes (entry_at words 0) (codes "reporter") tests.0 in
    let second : entry_at words 1 ≡ entry_at names.reporters reporter = same_bytes (entry_at words 1) (entry_at names.reporters reporter) named in
    let third : entry_at words 2 ≡ codes "sent" = same_bytes (entry_at words 2) (codes "sent") third_test.0 in
    let fourth : entry_at words 3 ≡ decimal sent = (number_read (entry_at words 3) sent parts.1).0 in
    all ∙ cc

-- ---- `reader`

both_numbers : (one two : Option ℕ) (told : ReaderWords) → reader_words one two ≡ Some told → (one ≡ Some told.number) × (two ≡ Some told.length)
both_numbers None two told is = absurd cc
both_numbers (Some one) None told is = absurd cc
both_numbers (Some one) (Some two) told is =
    let same : record { number = one; length = two } ≡ told = cc in
    (ap (λ (t : ReaderWords). Some t.number) same, ap (λ (t : ReaderWords). Some t.length) same)

pub reader_printed : (number length : ℕ) → number < 2 ^ 64 → length < 2 ^ 64 → reader_of (reader_line number length) ≡ Some (record { number = number; length = length })
unfolding reader_of
reader_printed number length small few =
    ap (λ (one : Option ℕ). reader_words one (printed_number_of (decimal length))) (number_printed number small)
    ∙ ap (λ (two : Option ℕ). reader_words (Some number) two) (number_printed length few)

pub reader_read : (words : List (List ℕ)) (told : ReaderWords) → reader_of words ≡ Some told → words ≡ reader_line told.number told.length
unfolding reader_of
reader_read words told is =
    let parts = passed ((length words == 4) && (is_word words 0 (codes "reader") && is_word words 2 (codes "length"))) (reader_words (number_at words 1) (number_at words 3)) told is in
    let four = and_parts (length words == 4) (is_word words 0 (codes "reader") && is_word words 2 (codes "length")) parts.0 in
    let tests = and_parts (is_word words 0 (codes "reader")) (is_word words 2 (codes "length")) four.1 in
    let numbers = both_numbers (number_at words 1) (number_at words 3) told parts.1 in
    let all : words ≡ entry_at words 0 ∷ entry_at words 1 ∷ entry_at words 2 ∷ entry_at words 3 ∷ [] = listed_from 0 4 words (eqb-true (length words) 4 four.0) in
    let first : entry_at words 0 ≡ codes "reader" = same_bytes (entry_at words 0) (codes "reader") tests.0 in
    let second : entry_at words 1 ≡ decimal told.number = (number_read (entry_at words 1) told.number numbers.0).0 in
    let third : entry_at words 2 ≡ codes "length" = same_bytes (entry_at words 2) (codes "length") tests.1 in
    let fourth : entry_at words 3 ≡ decimal told.length = (number_read (entry_at words 3) told.length numbers.1).0 in
    all ∙ cc

-- ---- `read` and `final`

three_numbers : (one two three : Option ℕ) (told : Shown) → shown_words one two three ≡ Some told → (one ≡ Some told.floor) × (two ≡ Some told.prefix) × (three ≡ Some told.total)
three_numbers None two three told is = absurd cc
three_numbers (Some one) None three told is = absurd cc
three_numbers (Some one) (Some two) None told is = absurd cc
three_numbers (Some one) (Some two) (Some three) told is =
    let same : record { floor = one; prefix = two; total = three } ≡ told = cc in
    (ap (λ (t : Shown). Some t.floor) same, ap (λ (t : Shown). Some t.prefix) same, ap (λ (t : Shown). Some t.total) same)

pub shown_printed : (kind : List ℕ) (floor prefix total : ℕ) → floor < 2 ^ 64 → prefix < 2 ^ 64 → total < 2 ^ 64
    → shown_of kind (shown_line kind floor prefix total) ≡ Some (record { floor = floor; prefix = prefix; total = total })
unfolding shown_of
shown_printed kind floor prefix total low covers sum =
    ap (λ (b : Bool). cond b (shown_words (printed_number_of (decimal floor)) (printed_number_of (decimal prefix)) (printed_number_of (decimal total))) None) (and_from (bytes_eq kind kind) true (itself kind) refl)
    ∙ ap (λ (one : Option ℕ). shown_words one (printed_number_of (decimal prefix)) (printed_number_of (decimal total))) (number_printed floor low)
    ∙ ap (λ (two : Option ℕ). shown_words (Some floor) two (printed_number_of (decimal total))) (number_printed prefix covers)
    ∙ ap (λ (three : Option ℕ). shown_words (Some floor) (Some prefix) three) (number_printed total sum)

pub shown_read : (kind : List ℕ) (words : List (List ℕ)) (told : Shown) → shown_of kind words ≡ Some told → (words ≡ shown_line kind told.floor told.prefix told.total) × (told.total < 2 ^ 64)
unfolding shown_of
shown_read kind words told is =
    let fifth_on : Bool = is_word words 3 (codes "prefix") && is_word words 5 (codes "total") in
    let second_on : Bool = is_word words 1 (codes "floor") && fifth_on in
    let parts = passed ((length words == 7) && (is_word words 0 kind && second_on)) (shown_words (number_at words 2) (number_at words 4) (number_at words 6)) told is in
    let seven = and_parts (length words == 7) (is_word words 0 kind && second_on) parts.0 in
    let tests = and_parts (is_word words 0 kind) second_on seven.1 in
    let later = and_parts (is_word words 1 (codes "floor")) fifth_on tests.1 in
    let last = and_parts (is_word words 3 (codes "prefix")) (is_word words 5 (codes "total")) later.1 in
    let numbers = three_numbers (number_at words 2) (number_at words 4) (number_at words 6) told parts.1 in
    let all : words ≡ entry_at words 0 ∷ entry_at words 1 ∷ entry_at words 2 ∷ entry_at words 3 ∷ entry_at words 4 ∷ entry_at words 5 ∷ entry_at words 6 ∷ [] = listed_from 0 7 words (eqb-true (length words) 7 seven.0) in
    let w0 : entry_at words 0 ≡ kind = same_bytes (entry_at words 0) kind tests.0 in
    let w1 : entry_at words 1 ≡ codes "floor" = same_bytes (entry_at words 1) (codes "floor") later.0 in
    let w2 : entry_at words 2 ≡ decimal told.floor = (number_read (entry_at words 2) told.floor numbers.0).0 in
    let w3 : entry_at words 3 ≡ codes "prefix" = same_bytes (entry_at words 3) (codes "prefix") last.0 in
    let w4 : entry_at words 4 ≡ decimal told.prefix = (number_read (entry_at words 4) told.prefix numbers.1).0 in
    let w5 : entry_at words 5 ≡ codes "total" = same_bytes (entry_at words 5) (codes "total") last.1 in
    let w6 : entry_at words 6 ≡ decimal told.total = (number_read (entry_at words 6) told.total numbers.2).0 in
    (all ∙ cc, (number_read (entry_at words 6) told.total numbers.2).1)

-- ---- `report` and `capacity`

-- the target has a name
abbrev pub IsNamed : NameTexts → Target → Type 0
IsNamed names (Task number) = number < length names.tasks
IsNamed names (Link number) = number < length names.links

three_told : (one two three : Option ℕ) (told : ReportWords) → report_words one two three ≡ Some told → (one ≡ Some told.place) × (two ≡ Some told.reporter) × (three ≡ Some told.amount)
three_told None two three told is = absurd cc
three_told (Some one) None three told is = absurd cc
three_told (Some one) (Some two) None told is = absurd cc
three_told (Some one) (Some two) (Some three) told is =
    let same : record { place = one; reporter = two; amount = three } ≡ told = cc in
    (ap (λ (t : ReportWords). Some t.place) same, ap (λ (t : ReportWords). Some t.reporter) same, ap (λ (t : ReportWords). Some t.amount) same)

place_of_name : (names : NameTexts) → AreNames names → (reporter : ℕ) → reporter < length names.reporters
    → position (bytes_eq (entry_at names.reporters reporter)) names.reporters ≡ Some reporter
place_of_name names are reporter within =
    let test : List ℕ → Bool = bytes_eq (entry_at names.reporters reporter) in
    let other : (k : ℕ) → k < reporter → test (get_or names.reporters k []) ≡ false =
    λ k before. false_from_ne_true (test (get_or names.reporters k [])) (λ is. absurd (are.apart k reporter before within (sym (same_bytes (entry_at names.reporters reporter) (entry_at names.reporters k) is)))) in
    let place : position_or_len test names.reporters ≡ reporter =
    position_or_len_is test names.reporters reporter [] (omega arith) other (λ lt. itself (entry_at names.reporters reporter)) in
    ap (λ (p : ℕ). cond (nat_lt p (length names.reporters)) (Some p) None) place
    ∙ ap (λ (b : Bool). cond b (Some reporter) None) (lt-ltb reporter (length names.reporters) within)

module _ (names : NameTexts) (are : AreNames names) where
  known : (place reporter : ℕ) (target : Target) (amount : ℕ) → IsNamed names target
      → is_of_known names (report_line names place (record { reporter = reporter; target = target; amount = amount })) ≡ true
  unfolding is_of_known
  known place reporter (Task number) amount within =
      or_left (list_any (bytes_eq (entry_at names.tasks number)) names.tasks) false (list_any_at (bytes_eq (entry_at names.tasks number)) names.tasks number [] within (itself (entry_at names.tasks number)))
  known place reporter (Link number) amount within =
      list_any_at (bytes_eq (entry_at names.links number)) names.links number [] within (itself (entry_at names.links number))

  pub report_printed : (place : ℕ) (report : Report) → place < 2 ^ 64 → report.reporter < length names.reporters → IsNamed names report.target → report.amount < 2 ^ 64
      → report_of names (report_line names place report) ≡ Some (record { place = place; reporter = report.reporter; amount = report.amount })
  unfolding report_of
  report_printed place report small within named fits =
      ap (λ (b : Bool). cond b (report_words (printed_number_of (decimal place)) (position (bytes_eq (entry_at names.reporters report.reporter)) names.reporters) (printed_number_of (decimal report.amount))) None)
      (known place report.reporter report.target report.amount named)
      ∙ ap (λ (one : Option ℕ). report_words one (position (bytes_eq (entry_at names.reporters report.reporter)) names.reporters) (printed_number_of (decimal report.amount))) (number_printed place small)
      ∙ ap (λ (two : Option ℕ). report_words (Some place) two (printed_number_of (decimal report.amount))) (place_of_name names are report.reporter within)
      ∙ ap (λ (three : Option ℕ). report_words (Some place) (Some report.reporter) three) (number_printed report.amount fits)

-- the line is of its own task or link
pub own_target : (names : NameTexts) (place reporter : ℕ) (target : Target) (amount : ℕ) → is_of names (report_line names place (record { reporter = reporter; target = target; amount = amount })) target ≡ true
unfolding is_of
own_target names place reporter (Task number) amount = itself (entry_at names.tasks number)
own_target names place reporter (Link number) amount = itself (entry_at names.links number)

named_words : (names : NameTexts) (words : List (List ℕ)) (target : Target) → is_of names words target ≡ true → (entry_at words 0 ≡ kind_of target) × (entry_at words 3 ≡ name_of names target)
unfolding is_of
named_words names words (Task number) is =
    let parts = and_parts (is_word words 0 (codes "report")) (bytes_eq (entry_at words 3) (entry_at names.tasks number)) is in
    (same_bytes (entry_at words 0) (codes "report") parts.0, same_bytes (entry_at words 3) (entry_at names.tasks number) parts.1)
named_words names words (Link number) is =
    let parts = and_parts (is_word words 0 (codes "capacity")) (bytes_eq (entry_at words 3) (entry_at names.links number)) is in
    (same_bytes (entry_at words 0) (codes "capacity") parts.0, same_bytes (entry_at words 3) (entry_at names.links number) parts.1)

pub report_read : (names : NameTexts) (words : List (List ℕ)) (told : ReportWords) (target : Target) → report_of names words ≡ Some told → is_of names words target ≡ true
    → (words ≡ report_line names told.place (record { reporter = told.reporter; target = target; amount = told.amount })) × (told.reporter < length names.reporters)
unfolding report_of
report_read names words told target is of =
    let parts = passed ((length words == 5) && is_of_known names words) (report_words (number_at words 1) (position (bytes_eq (entry_at words 2)) names.reporters) (number_at words 4)) told is in
    let five = and_parts (length words == 5) (is_of_known names words) parts.0 in
    let numbers = three_told (number_at words 1) (position (bytes_eq (entry_at words 2)) names.reporters) (number_at words 4) told parts.1 in
    let here = position-Some (bytes_eq (entry_at words 2)) names.reporters told.reporter [] numbers.1 in
    let named = named_words names words target of in
    let all : words ≡ entry_at words 0 ∷ entry_at words 1 ∷ entry_at words 2 ∷ entry_at words 3 ∷ entry_at words 4 ∷ [] = listed_from 0 5 words (eqb-true (length words) 5 five.0) in
    let w1 : entry_at words 1 ≡ decimal told.place = (number_read (entry_at words 1) told.place numbers.0).0 in
    let w2 : entry_at words 2 ≡ entry_at names.reporters told.reporter = same_bytes (entry_at words 2) (entry_at names.reporters told.reporter) here.1 in
    let w4 : entry_at words 4 ≡ decimal told.amount = (number_read (entry_at words 4) told.amount numbers.2).0 in
    let w0 : entry_at words 0 ≡ kind_of target = named.0 in
    let w3 : entry_at words 3 ≡ name_of names target = named.1 in
    (all ∙ cc, here.0)
