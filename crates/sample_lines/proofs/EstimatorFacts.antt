-- Estimators behind samples, as one sample more comes.
use Rattle.std.proofs.Common.{◌≡◌, ℕ, ◌+◌, ◌-◌, ◌<◌, ◌≤◌, Bool, true, false, cond, ◌==◌, List, [], ◌∷◌, ◌++◌, length, get_or, take, drop, drop-cons, map, Option, Some, None, refl, sym, ap, subst, ◌∙◌, nat_eq, arith, add-one}
use Rattle.std.specs.Prelude.{filter}
use Rattle.std.specs.HashMap.{Updates, get}
use Rattle.std.proofs.Math.Seq.{take-suc}
use Rattle.std.proofs.lemmas.Bool.{eqb-true}
use Rattle.std.proofs.lemmas.List.{map-append, append-nil, append_assoc, drop_all}
use Rattle.std.proofs.lemmas.List.Elements.{filter-append}
use Rattle.bwe_specs.specs.declared.report.Report.{Report}
use Rattle.demand_estimate.specs.Estimator.{Kept}
use Rattle.sample_lines.specs.declared.sample.Sample.{Sample}
use Rattle.sample_lines.specs.Estimators.{AreBehind, Estimators, IsBehind, IsBehindIfAny}
use Rattle.sample_lines.specs.SampleReports.{amounts_of, report_of, reports_behind}

amounts_more : (task : ℕ) (before : List Sample) (sample : Sample) (b : Bool) → (sample.task == task) ≡ b
    → amounts_of task (before ++ sample ∷ []) ≡ amounts_of task before ++ cond b (sample.amount ∷ []) []
amounts_more task before sample b e =
    ap (λ (some : List Sample). map (λ s. s.amount) some) (filter-append (λ s. s.task == task) before (sample ∷ []))
    ∙ map-append (λ s. s.amount) (filter (λ s. s.task == task) before) (filter (λ s. s.task == task) (sample ∷ []))
    ∙ ap (λ (some : List ℕ). amounts_of task before ++ some) (go b e)
  where
    go : (b : Bool) → (sample.task == task) ≡ b → map (λ s. s.amount) (filter (λ s. s.task == task) (sample ∷ [])) ≡ cond b (sample.amount ∷ []) []
    go true h = rw h refl
    go false h = rw h refl

-- a new estimator is behind no samples
pub behind_none : (window headroom : ℕ) (amounts : List ℕ) (estimator : Kept) → amounts ≡ [] → estimator ≡ record { window = window; headroom = headroom; samples = [] } → IsBehind window headroom amounts estimator
behind_none window headroom amounts estimator none is =
    subst (λ (known : Kept). IsBehind window headroom amounts known) (sym is)
    (subst (λ (some : List ℕ). IsBehind window headroom some (record { window = window; headroom = headroom; samples = [] })) (sym none)
    (record { window_kept = refl; headroom_kept = refl; had = sym (drop_all (0 - window) [] (omega arith)) }))

-- every task's estimator, after one task's was replaced
pub behind_more : (window headroom : ℕ) (before : List Sample) (sample : Sample) (old left new : Estimators) (estimator : Kept)
    → AreBehind window headroom before old → Updates nat_eq old left sample.task None → Updates nat_eq left new sample.task (Some estimator)
    → IsBehind window headroom (amounts_of sample.task before ++ sample.amount ∷ []) estimator
    → AreBehind window headroom (before ++ sample ∷ []) new
behind_more window headroom before sample old left new estimator behind out in_again here task = go (sample.task == task) refl
  where
    go : (b : Bool) → (sample.task == task) ≡ b → IsBehindIfAny window headroom (amounts_of task (before ++ sample ∷ [])) (get nat_eq new task)
    go true e =
        let same = eqb-true sample.task task e in
        subst (λ (found : Option Kept). IsBehindIfAny window headroom (amounts_of task (before ++ sample ∷ [])) found) (sym (in_again.0 task ∙ ap (λ b. cond b (Some estimator) (get nat_eq left task)) e))
        (subst (λ (some : List ℕ). IsBehind window headroom some estimator) (ap (λ (number : ℕ). amounts_of number before ++ sample.amount ∷ []) same ∙ sym (amounts_more task before sample true e)) here)
    go false e =
        subst (λ (found : Option Kept). IsBehindIfAny window headroom (amounts_of task (before ++ sample ∷ [])) found)
        (sym (in_again.0 task ∙ ap (λ b. cond b (Some estimator) (get nat_eq left task)) e ∙ out.0 task ∙ ap (λ b. cond b None (get nat_eq old task)) e))
        (subst (λ (some : List ℕ). IsBehindIfAny window headroom some (get nat_eq old task)) (sym (amounts_more task before sample false e ∙ append-nil (amounts_of task before))) (behind task))

-- ---- the reports so far

pub one_report_more : (window headroom : ℕ) (samples : List Sample) (i : ℕ) (sample : Sample) (reports : List Report) (report : Report) (goal : List Report)
    → i < length samples → sample ≡ get_or samples i sample → report ≡ report_of window headroom (take i samples) sample
    → reports ++ reports_behind window headroom (take i samples) (drop i samples) ≡ goal
    → (reports ++ report ∷ []) ++ reports_behind window headroom (take (i + 1) samples) (drop (i + 1) samples) ≡ goal
unfolding reports_behind
one_report_more window headroom samples i sample reports report goal l is made known =
    let taken : take (i + 1) samples ≡ take i samples ++ sample ∷ [] = rw add-one (take-suc samples i sample l) ∙ ap (λ (next : Sample). take i samples ++ next ∷ []) (sym is) in
    let dropped : drop i samples ≡ sample ∷ drop (i + 1) samples = rw add-one (drop-cons samples i sample l) ∙ ap (λ (next : Sample). next ∷ drop (i + 1) samples) (sym is) in
    append_assoc reports (report ∷ []) (reports_behind window headroom (take (i + 1) samples) (drop (i + 1) samples))
    ∙ ap (λ (first : Report). reports ++ first ∷ reports_behind window headroom (take (i + 1) samples) (drop (i + 1) samples)) made
    ∙ ap (λ (some : List Sample). reports ++ report_of window headroom (take i samples) sample ∷ reports_behind window headroom some (drop (i + 1) samples)) taken
    ∙ sym (ap (λ (some : List Sample). reports ++ reports_behind window headroom (take i samples) some) dropped)
    ∙ known

pub taken_more : (samples : List Sample) (i : ℕ) (sample : Sample) → i < length samples → sample ≡ get_or samples i sample → take i samples ++ sample ∷ [] ≡ take (i + 1) samples
taken_more samples i sample l is = sym (rw add-one (take-suc samples i sample l) ∙ ap (λ (next : Sample). take i samples ++ next ∷ []) (sym is))

pub all_reports : (window headroom : ℕ) (samples : List Sample) (i : ℕ) (reports goal : List Report)
    → length samples ≤ i → reports ++ reports_behind window headroom (take i samples) (drop i samples) ≡ goal → reports ≡ goal
unfolding reports_behind
all_reports window headroom samples i reports goal l known =
    sym (append-nil reports) ∙ sym (ap (λ (some : List Sample). reports ++ reports_behind window headroom (take i samples) some) (drop_all i samples l)) ∙ known
