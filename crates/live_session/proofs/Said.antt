-- The reports of lines are of what there is, and by the owners.
use Rattle.std.proofs.Common.{◌≡◌, ℕ, ◌<◌, ◌≤◌, Bool, true, false, cond, List, [], ◌∷◌, length, flat_map, Option, Some, None, Result, Ok, Err, refl, sym, ap, subst, All}
use Rattle.std.specs.Prelude.{⊤, codes, nat_le, option_and_then, option_map}
use Rattle.std.specs.Str.{bytes_eq, is_utf8}
use Rattle.std.proofs.lemmas.Bool.{leb-true}
use Rattle.std.proofs.lemmas.List.Elements.{All-append, All-cons, All-nil}
use Rattle.std.proofs.lemmas.List.Quantifiers.{position-Some}
use Rattle.bwe_specs.specs.declared.limits.TheConstants.{MAX_AMOUNT}
use Rattle.bwe_specs.specs.declared.report.Report.{Report}
use Rattle.bwe_specs.specs.declared.report.Target.{Target}
use Rattle.bwe_specs.specs.declared.report.Target.TheVariants.{Task, Link}
use Rattle.bwe_specs.specs.Fit.{IsFit, IsInRange}
use Rattle.doc_names.specs.Owners.{is_owner, owner_of}
use Rattle.doc_names.proofs.OwnerFacts.{owner_is}
use Rattle.text_scan.specs.Names.{number_of_name}
use Rattle.text_scan.specs.Numbers.{amount_in_range, number_of}
use Rattle.text_scan.specs.Words.{Text, words_of}
use Rattle.doc_parts.specs.Document.{Accepted}
use Rattle.live_lines.specs.declared.line.LineCause.{LineCause}
use Rattle.live_lines.specs.declared.line.LineCause.TheVariants.{NoLine, UnknownName, AmountOutOfRange, NotOwner}
use Rattle.live_lines.specs.declared.line.LineMeaning.{LineMeaning}
use Rattle.live_lines.specs.declared.line.LineMeaning.TheVariants.{NewReport, Post, State, Refused}
use Rattle.live_lines.specs.Cutting.{Held}
use Rattle.live_lines.specs.Known.{Known, IsByOwner}
use Rattle.live_lines.specs.Meaning as meanings
use Rattle.live_lines.specs.Meaning.{IfNewReport, amount_of, is_report, meaning_of, meaning_of_words, or_else, report_of, reported, target_named, unless}
use Rattle.live_lines.proofs.MeaningFacts.{no_report}
use Rattle.live_session.specs.Standing.{at_first}
use Rattle.live_session.specs.Answers.{known_of, standing_in}
use Rattle.live_session.specs.Laws.{reports_in}
use Rattle.live_session.proofs.Lines.{accepted-is}

-- a report of a reporter, a task or link and an amount that there are, by the owner
pub record IsSaid (known : Known) (report : Report) : Type 0 where
  pub reporter : report.reporter < length known.names.reporters
  pub fit : IsFit (length known.names.tasks) (length known.names.links) report
  pub owner : IsByOwner known report

-- ---- steps that did not fail

bind_ok : {A B : Type 0} (r : Result A LineCause) (f : A → Result B LineCause) (y : B) → meanings.◌>>=◌ r f ≡ Ok y → (x : A) × (r ≡ Ok x) × (f x ≡ Ok y)
bind_ok (Ok x) f y e = (x, refl, e)
bind_ok (Err cause) f y e = absurd cc

else_ok : {A : Type 0} (cause : LineCause) (o : Option A) (x : A) → or_else cause o ≡ Ok x → o ≡ Some x
else_ok cause None x e = absurd cc
else_ok cause (Some y) x e = let same : y ≡ x = cc in ap Some same

unless_ok : (cause : LineCause) (b : Bool) (u : ⊤) → unless cause b ≡ Ok u → b ≡ true
unless_ok cause true u e = refl
unless_ok cause false u e = absurd cc

below : (names : List Text) (name : Text) (number : ℕ) → number_of_name names name ≡ Some number → number < length names
below names name number e = (position-Some (bytes_eq name) names number [] e).0

task-there : (tasks links : List Text) (name : Text) (found : Option ℕ) (target : Target) → number_of_name tasks name ≡ found → option_map (λ task. Task task) found ≡ Some target → IsInRange (length tasks) (length links) target
task-there tasks links name None target is e = absurd cc
task-there tasks links name (Some number) target is e = let same : Task number ≡ target = cc in subst (IsInRange (length tasks) (length links)) same (below tasks name number is)

link-there : (tasks links : List Text) (name : Text) (found : Option ℕ) (target : Target) → number_of_name links name ≡ found → option_map (λ link. Link link) found ≡ Some target → IsInRange (length tasks) (length links) target
link-there tasks links name None target is e = absurd cc
link-there tasks links name (Some number) target is e = let same : Link number ≡ target = cc in subst (IsInRange (length tasks) (length links)) same (below links name number is)

target-there : (known : Known) (kind name : Text) (target : Target) → target_named known kind name ≡ Some target → IsInRange (length known.names.tasks) (length known.names.links) target
unfolding target_named
target-there known kind name target e = go (bytes_eq kind (codes "demand")) e where
  go : (b : Bool) → ◌≡◌ {A = Option Target} (cond {A = Option Target} b (option_map (λ task. Task task) (number_of_name known.names.tasks name)) (option_map (λ link. Link link) (number_of_name known.names.links name))) (Some target)
      → IsInRange (length known.names.tasks) (length known.names.links) target
  go true e = task-there known.names.tasks known.names.links name (number_of_name known.names.tasks name) target refl e
  go false e = link-there known.names.tasks known.names.links name (number_of_name known.names.links name) target refl e

few-amount : (found : Option ℕ) (amount : ℕ) → option_and_then amount_in_range found ≡ Some amount → amount ≤ MAX_AMOUNT
few-amount None amount e = absurd cc
few-amount (Some number) amount e = go (nat_le number MAX_AMOUNT) refl e where
  go : (b : Bool) → nat_le number MAX_AMOUNT ≡ b → ◌≡◌ {A = Option ℕ} (cond {A = Option ℕ} b (Some number) None) (Some amount) → amount ≤ MAX_AMOUNT
  go true e f = let same : number ≡ amount = cc in subst (λ n. n ≤ MAX_AMOUNT) same (leb-true number MAX_AMOUNT e)
  go false e f = absurd cc

amount-few : (digits : Text) (amount : ℕ) → amount_of digits ≡ Some amount → amount ≤ MAX_AMOUNT
unfolding amount_of
amount-few digits amount e = few-amount (number_of digits) amount e

-- ---- four words

module _ (known : Known) (kind reporter name amount : Text) where
  abbrev as_owner : ℕ → Target → ℕ → Result Report LineCause
  as_owner number target kilobits =
      meanings.◌>>=◌ (unless NotOwner (is_owner (owner_of known.task_owners known.link_owners target) number)) (λ _. Ok (record { reporter = number; target = target; amount = kilobits }))

  abbrev with_target : ℕ → Target → Result Report LineCause
  with_target number target = meanings.◌>>=◌ (or_else AmountOutOfRange (amount_of amount)) (as_owner number target)

  abbrev with_reporter : ℕ → Result Report LineCause
  with_reporter number = meanings.◌>>=◌ (or_else UnknownName (target_named known kind name)) (with_target number)

  said-of : (report : Report) → report_of known kind reporter name amount ≡ Ok report → IsSaid known report
  unfolding report_of
  said-of report e =
      let form = bind_ok (unless NoLine (is_report kind reporter name amount)) (λ _. meanings.◌>>=◌ (or_else UnknownName (number_of_name known.names.reporters reporter)) with_reporter) report e in
      let number = bind_ok (or_else UnknownName (number_of_name known.names.reporters reporter)) with_reporter report form.2 in
      let target = bind_ok (or_else UnknownName (target_named known kind name)) (with_target number.0) report number.2 in
      let kilobits = bind_ok (or_else AmountOutOfRange (amount_of amount)) (as_owner number.0 target.0) report target.2 in
      let owned = bind_ok (unless NotOwner (is_owner (owner_of known.task_owners known.link_owners target.0) number.0)) (λ _. Ok (record { reporter = number.0; target = target.0; amount = kilobits.0 })) report kilobits.2 in
      let made : Report = record { reporter = number.0; target = target.0; amount = kilobits.0 } in
      subst (IsSaid known) {x = made} (ok_is made report owned.2) (record {
        reporter = below known.names.reporters reporter number.0 (else_ok UnknownName (number_of_name known.names.reporters reporter) number.0 number.1);
        fit = (target-there known kind name target.0 (else_ok UnknownName (target_named known kind name) target.0 target.1), amount-few amount kilobits.0 (else_ok AmountOutOfRange (amount_of amount) kilobits.0 kilobits.1));
        owner = owner_is (owner_of known.task_owners known.link_owners target.0) number.0 (unless_ok NotOwner (is_owner (owner_of known.task_owners known.link_owners target.0) number.0) owned.0 owned.1);
      })
    where
      ok_is : (x y : Report) → ◌≡◌ {A = Result Report LineCause} (Ok x) (Ok y) → x ≡ y
      ok_is x y e = cc

if-reported : (P : Report → Type 0) (r : Result Report LineCause) → ((report : Report) → r ≡ Ok report → P report) → IfNewReport (reported r) P
if-reported P (Ok report) each = each report refl
if-reported P (Err cause) each = tt

-- ---- a line

words-said : (known : Known) (words : List Text) → IfNewReport (meaning_of_words known words) (IsSaid known)
unfolding meaning_of_words
words-said known [] = tt
words-said known (word ∷ []) = no_report word (IsSaid known)
words-said known (a ∷ b ∷ []) = tt
words-said known (a ∷ b ∷ c ∷ []) = tt
words-said known (a ∷ b ∷ c ∷ d ∷ []) = if-reported (IsSaid known) (report_of known a b c d) (said-of known a b c d)
words-said known (a ∷ b ∷ c ∷ d ∷ more ∷ words) = tt

line-said : (known : Known) (line : Held) → IfNewReport (meaning_of known line) (IsSaid known)
unfolding meaning_of
line-said known None = tt
line-said known (Some text) = go (is_utf8 text) where
  go : (b : Bool) → IfNewReport (cond b (meaning_of_words known (words_of text)) (Refused NoLine)) (IsSaid known)
  go true = words-said known (words_of text)
  go false = tt

all-reports : (P : Report → Type 0) (meaning : LineMeaning) → IfNewReport meaning P → All P (reports_in meaning)
all-reports P (NewReport report) is = All-cons P report [] is (All-nil P)
all-reports P Post is = All-nil P
all-reports P State is = All-nil P
all-reports P (Refused cause) is = All-nil P

lines-said : (known : Known) (lines : List Held) → All (IsSaid known) (flat_map (λ line. reports_in (meaning_of known line)) lines)
lines-said known [] = All-nil (IsSaid known)
lines-said known (line ∷ lines) =
    All-append (IsSaid known) (reports_in (meaning_of known line)) (flat_map (λ line. reports_in (meaning_of known line)) lines) (all-reports (IsSaid known) (meaning_of known line) (line-said known line)) (lines-said known lines)

-- all that was accepted is said by the owners, where the script is
pub all-said : (accepted : Accepted) (lines : List Held) → All (IsSaid (known_of accepted)) accepted.script → All (IsSaid (known_of accepted)) (standing_in accepted lines).accepted
all-said accepted lines script =
    subst (All (IsSaid (known_of accepted))) (sym (accepted-is (known_of accepted) (at_first accepted.script) lines))
    (All-append (IsSaid (known_of accepted)) accepted.script (flat_map (λ line. reports_in (meaning_of (known_of accepted) line)) lines) script (lines-said (known_of accepted) lines))
