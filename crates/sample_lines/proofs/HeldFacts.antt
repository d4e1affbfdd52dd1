-- What holds of every sample that was read, and of every report.
use Rattle.std.proofs.Common.{◌≡◌, ℕ, suc, ◌≤◌, Bool, true, false, cond, List, [], ◌∷◌, ◌++◌, length, Option, Some, None, Ok, refl, sym, ap, subst, ◌∙◌, nat_le, nat_lt, arith, length-append}
use Rattle.std.specs.Prelude.{option_and_then, position, slice_get, All}
use Rattle.std.specs.Str.{bytes_eq}
use Rattle.std.proofs.lemmas.Bool.{leb-true, ltb-true}
use Rattle.std.proofs.lemmas.List.Elements.{All-nil, All-push, All-cons, All-head, All-tail}
use Rattle.std.proofs.lemmas.List.Quantifiers.{position-Some}
use Rattle.bwe_specs.specs.declared.limits.TheConstants.{MAX_AMOUNT}
use Rattle.bwe_specs.specs.declared.report.Report.{Report}
use Rattle.bwe_specs.specs.Fit.{IsFit}
use Rattle.demand_estimate.specs.Estimate.{estimate, with_headroom}
use Rattle.sample_lines.specs.declared.sample.Sample.{Sample}
use Rattle.text_scan.specs.Items.{items_of}
use Rattle.text_scan.specs.Lines.{left_of, lines_of}
use Rattle.text_scan.specs.Numbers.{amount_in_range, printed_number_of}
use Rattle.text_scan.specs.Words.{Text}
use Rattle.text_scan.proofs.ItemFacts.{items_keep}
use Rattle.sample_lines.specs.Known.{Known, known_by}
use Rattle.sample_lines.specs.SampleLine.{Fields, amount_of, fields_of, sample_of}
use Rattle.doc_names.specs.Owners.{is_owner}
use Rattle.doc_names.proofs.OwnerFacts.{owner_is}
use Rattle.sample_lines.specs.SampleLines.{next_sample}
use Rattle.sample_lines.specs.SampleReports.{amounts_of, report_of, reports_behind}
use Rattle.doc_names.specs.declared.Names.{Names}
use Rattle.sample_lines.specs.Held.{IsHeld, IsByOwner}

bind : {A B : Type 0} (o : Option A) (f : A → Option B) (y : B) → option_and_then f o ≡ Some y → (x : A) × (o ≡ Some x) × (f x ≡ Some y)
bind None f y e = absurd (let g : None ≡ Some y = e in cc)
bind (Some x) f y e = (x, refl, e)

-- ---- one sample

chosen : {A : Type 0} (b : Bool) (x y : A) → cond b (Some x) None ≡ Some y → (b ≡ true) × (x ≡ y)
chosen true x y e = (refl, let g : Some x ≡ Some y = e in cc)
chosen false x y e = absurd (let g : None ≡ Some y = e in cc)

amount_fits : (digits : Text) (amount : ℕ) → amount_of digits ≡ Some amount → amount ≤ MAX_AMOUNT
unfolding amount_of
amount_fits digits amount e =
    let number = bind (printed_number_of digits) amount_in_range amount e in
    let is = chosen (nat_le number.0 MAX_AMOUNT) number.0 amount number.2 in
    omega (arith, is.1, leb-true number.0 MAX_AMOUNT is.0)

sample_held : (known : Known) (text : Text) (sample : Sample) → sample_of known text ≡ Some sample → IsHeld known sample
unfolding sample_of
sample_held known text sample e =
    let fields = bind (fields_of text) (λ (fields : Fields). option_and_then (λ reporter. option_and_then (λ task. option_and_then (λ amount. cond (is_owner (slice_get known.task_owners task) reporter) (let made : Sample = record { reporter = reporter; task = task; amount = amount } in Some made) None) (amount_of fields.amount)) (position (bytes_eq fields.task) known.names.tasks)) (position (bytes_eq fields.reporter) known.names.reporters)) sample e in
    let reporter = bind (position (bytes_eq fields.0.reporter) known.names.reporters) (λ (reporter : ℕ). option_and_then (λ task. option_and_then (λ amount. cond (is_owner (slice_get known.task_owners task) reporter) (let made : Sample = record { reporter = reporter; task = task; amount = amount } in Some made) None) (amount_of fields.0.amount)) (position (bytes_eq fields.0.task) known.names.tasks)) sample fields.2 in
    let task = bind (position (bytes_eq fields.0.task) known.names.tasks) (λ (task : ℕ). option_and_then (λ amount. cond (is_owner (slice_get known.task_owners task) reporter.0) (let made : Sample = record { reporter = reporter.0; task = task; amount = amount } in Some made) None) (amount_of fields.0.amount)) sample reporter.2 in
    let amount = bind (amount_of fields.0.amount) (λ (amount : ℕ). cond (is_owner (slice_get known.task_owners task.0) reporter.0) (let made : Sample = record { reporter = reporter.0; task = task.0; amount = amount } in Some made) None) sample task.2 in
    let made : Sample = record { reporter = reporter.0; task = task.0; amount = amount.0 } in
    let last = chosen (is_owner (slice_get known.task_owners task.0) reporter.0) made sample amount.2 in
    let held : IsHeld known made = record {
      task = (position-Some (bytes_eq fields.0.task) known.names.tasks task.0 [] task.1).0;
      reporter = (position-Some (bytes_eq fields.0.reporter) known.names.reporters reporter.0 [] reporter.1).0;
      owner = owner_is (slice_get known.task_owners task.0) reporter.0 last.0;
      amount = amount_fits fields.0.amount amount.0 amount.1;
    } in
    subst (λ (s : Sample). IsHeld known s) last.1 held

-- ---- all samples

record Kept (known : Known) (room : ℕ) (samples : List Sample) : Type 0 where
  held : All (IsHeld known) samples
  few : length samples ≤ room

-- one sample more is held, and there was room for it
next_kept : (known : Known) (room : ℕ) (samples : List Sample) (line : Text) (sample : Sample) → next_sample known room samples line ≡ Some sample → Kept known room samples → Kept known room (samples ++ sample ∷ [])
next_kept known room samples line sample e kept = go (nat_lt (length samples) room) refl e
  where
    go : (b : Bool) → nat_lt (length samples) room ≡ b → cond b (sample_of known line) None ≡ Some sample → Kept known room (samples ++ sample ∷ [])
    go false h is = absurd (let g : None ≡ Some sample = is in cc)
    go true h is = record {
      held = All-push (IsHeld known) samples sample kept.held (sample_held known line sample is);
      few = omega (arith, ltb-true (length samples) room h, length-append samples (sample ∷ []));
    }

pub samples_kept : (known : Known) (room : ℕ) (part : Text) (found : List Sample) → items_of (next_sample known room) part ≡ Ok found → All (IsHeld known) found × (length found ≤ room)
samples_kept known room part found e =
    let none : Kept known room [] = record { held = All-nil (IsHeld known); few = omega arith } in
    let kept = items_keep (next_sample known room) (Kept known room) (next_kept known room) [] (lines_of part) (left_of part) found none e in
    (kept.held, kept.few)

pub amounts_held : (known : Known) (samples : List Sample) → All (IsHeld known) samples → All (λ sample. sample.amount ≤ MAX_AMOUNT) samples
amounts_held known samples held = λ k d l. (held k d l).amount

-- ---- reports

estimate_fits : (window headroom : ℕ) (amounts : List ℕ) → estimate window headroom amounts ≤ MAX_AMOUNT
unfolding estimate with_headroom
estimate_fits window headroom amounts = omega arith

pub length-reports : (window headroom : ℕ) (before samples : List Sample) → length (reports_behind window headroom before samples) ≡ length samples
unfolding reports_behind
length-reports window headroom before [] = refl
length-reports window headroom before (sample ∷ samples) = let rest = length-reports window headroom (before ++ sample ∷ []) samples in ap (λ (n : ℕ). suc n) rest

pub reports_hold : (P : Report → Type 0) (known : Known) (window headroom : ℕ) → ((before : List Sample) (sample : Sample) → IsHeld known sample → P (report_of window headroom before sample))
    → (before samples : List Sample) → All (IsHeld known) samples → All P (reports_behind window headroom before samples)
unfolding reports_behind
reports_hold P known window headroom one before [] held = All-nil P
reports_hold P known window headroom one before (sample ∷ samples) held =
    All-cons P (report_of window headroom before sample) (reports_behind window headroom (before ++ sample ∷ []) samples)
    (one before sample (All-head (IsHeld known) sample samples held))
    (reports_hold P known window headroom one (before ++ sample ∷ []) samples (All-tail (IsHeld known) sample samples held))

pub reports_fit : (known : Known) (links window headroom : ℕ) (samples : List Sample) → All (IsHeld known) samples → All (IsFit (length known.names.tasks) links) (reports_behind window headroom [] samples)
reports_fit known links window headroom samples held =
    reports_hold (IsFit (length known.names.tasks) links) known window headroom (λ before sample one. (one.task, estimate_fits window headroom (amounts_of sample.task before ++ sample.amount ∷ []))) [] samples held

pub reports_owned : (known : Known) (window headroom : ℕ) (samples : List Sample) → All (IsHeld known) samples → All (IsByOwner known.task_owners) (reports_behind window headroom [] samples)
reports_owned known window headroom samples held =
    reports_hold (IsByOwner known.task_owners) known window headroom (λ before sample one. one.owner) [] samples held

-- ---- of a document

pub part_held : (known : Known) (names : Names) (task_owners : List ℕ) (room : ℕ) (part : Text) (found : List Sample) → known ≡ known_by names task_owners
    → items_of (next_sample known room) part ≡ Ok found → All (IsHeld (known_by names task_owners)) found × (length found ≤ room)
part_held known names task_owners room part found is e =
    samples_kept (known_by names task_owners) room part found (sym (ap (λ (other : Known). items_of (next_sample other room) part) is) ∙ e)

pub reports_few : (window headroom room : ℕ) (samples : List Sample) (reports : List Report) → reports ≡ reports_behind window headroom [] samples → length samples ≤ room → length reports ≤ room
reports_few window headroom room samples reports is few = let same : length reports ≡ length (reports_behind window headroom [] samples) = ap (λ (some : List Report). length some) is in omega (arith, length-reports window headroom [] samples)

pub fit_all : (names : Names) (task_owners : List ℕ) (links window headroom : ℕ) (samples : List Sample) (reports : List Report) → reports ≡ reports_behind window headroom [] samples
    → All (IsHeld (known_by names task_owners)) samples → All (IsFit (length names.tasks) links) reports
fit_all names task_owners links window headroom samples reports is held =
    subst (λ (some : List Report). All (IsFit (length names.tasks) links) some) (sym is) (reports_fit (known_by names task_owners) links window headroom samples held)

pub owned_all : (names : Names) (task_owners : List ℕ) (window headroom : ℕ) (samples : List Sample) (reports : List Report) → reports ≡ reports_behind window headroom [] samples
    → All (IsHeld (known_by names task_owners)) samples → All (IsByOwner task_owners) reports
owned_all names task_owners window headroom samples reports is held =
    subst (λ (some : List Report). All (IsByOwner task_owners) some) (sym is) (reports_owned (known_by names task_owners) window headroom samples held)
