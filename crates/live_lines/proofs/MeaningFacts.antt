-- What words mean, by how many there are.
use Rattle.std.proofs.Common.{inl, inr, ◌≡◌, ℕ, ◌<◌, Bool, true, false, List, [], ◌∷◌, length, cond, Option, Some, None, refl, sym, ap, ◌∙◌}
use Rattle.std.specs.Prelude.{codes, slice_get, option_and_then, IfNone}
use Rattle.std.specs.Str.{bytes_eq, is_utf8, IsUtf8}
use Rattle.std.proofs.lemmas.Str.{is_utf8-from_IsUtf8, IsUtf8-from_is_utf8}
use Rattle.std.proofs.lemmas.Bool.{cases_lt}
use Rattle.std.proofs.lemmas.Option.{slice_get_past}
use Rattle.bwe_specs.specs.declared.report.Report.{Report}
use Rattle.bwe_specs.specs.declared.report.Target.{Target}
use Rattle.bwe_specs.specs.declared.report.Target.TheVariants.{Task, Link}
use Rattle.bwe_specs.specs.Fit.{IsInRange}
use Rattle.live_lines.specs.declared.line.LineCause.TheVariants.{NoLine}
use Rattle.live_lines.specs.declared.line.LineMeaning.TheVariants.{Post, State, Refused}
use Rattle.text_scan.specs.Words.{Text, words_of}
use Rattle.live_lines.specs.Known.{Known}
use Rattle.doc_names.specs.Owners.{owner_of}
use Rattle.live_lines.specs.Meaning.{IfNewReport, command_of, meaning_of, meaning_of_words, report_of, reported}

pub no_words : (known : Known) (words : List Text) → words ≡ [] → Refused NoLine ≡ meaning_of_words known words
unfolding meaning_of_words
no_words known words none = rw none refl

pub one_word : (known : Known) (words more : List Text) (word : Text) → words ≡ word ∷ more → more ≡ [] → command_of word ≡ meaning_of_words known words
unfolding meaning_of_words
one_word known words more word first none = rw (first, none) refl

pub two_words : (known : Known) (words w1 w2 : List Text) (a b : Text) → words ≡ a ∷ w1 → w1 ≡ b ∷ w2 → w2 ≡ [] → Refused NoLine ≡ meaning_of_words known words
unfolding meaning_of_words
two_words known words w1 w2 a b e1 e2 e3 = rw (e1, e2, e3) refl

pub three_words : (known : Known) (words w1 w2 w3 : List Text) (a b c : Text) → words ≡ a ∷ w1 → w1 ≡ b ∷ w2 → w2 ≡ c ∷ w3 → w3 ≡ [] → Refused NoLine ≡ meaning_of_words known words
unfolding meaning_of_words
three_words known words w1 w2 w3 a b c e1 e2 e3 e4 = rw (e1, e2, e3, e4) refl

pub four_words : (known : Known) (words w1 w2 w3 w4 : List Text) (a b c d : Text) → words ≡ a ∷ w1 → w1 ≡ b ∷ w2 → w2 ≡ c ∷ w3 → w3 ≡ d ∷ w4 → w4 ≡ [] → reported (report_of known a b c d) ≡ meaning_of_words known words
unfolding meaning_of_words
four_words known words w1 w2 w3 w4 a b c d e1 e2 e3 e4 e5 = rw (e1, e2, e3, e4, e5) refl

pub five_words : (known : Known) (words w1 w2 w3 w4 w5 : List Text) (a b c d e : Text) → words ≡ a ∷ w1 → w1 ≡ b ∷ w2 → w2 ≡ c ∷ w3 → w3 ≡ d ∷ w4 → w4 ≡ e ∷ w5 → Refused NoLine ≡ meaning_of_words known words
unfolding meaning_of_words
five_words known words w1 w2 w3 w4 w5 a b c d e e1 e2 e3 e4 e5 = rw (e1, e2, e3, e4, e5) refl

-- where nothing was given, what holds then
pub not_some : {A : Type 0} (given : Option A) (P : Type 0) → ((x : A) → given ≡ Some x → ⊥) → IfNone given P → P
not_some None P never h = h
not_some (Some x) P never h = absurd (never x refl)

-- a command is no report
pub no_report : (word : Text) (P : Report → Type 0) → IfNewReport (command_of word) P
unfolding command_of
no_report word P = go (bytes_eq word (codes "post")) (bytes_eq word (codes "state"))
  where
    go : (a b : Bool) → IfNewReport (cond a Post (cond b State (Refused NoLine))) P
    go true b = tt
    go false true = tt
    go false false = tt

-- ---- a line

pub text_line : (known : Known) (line : Option Text) (bytes : Text) → line ≡ Some bytes → IsUtf8 bytes → meaning_of_words known (words_of bytes) ≡ meaning_of known line
unfolding meaning_of
text_line known line bytes e text = rw (e, is_utf8-from_IsUtf8 bytes text) refl

pub no_text : (known : Known) (line : Option Text) (bytes : Text) → line ≡ Some bytes → ¬ (IsUtf8 bytes) → Refused NoLine ≡ meaning_of known line
unfolding meaning_of
no_text known line bytes e none = rw e (go (is_utf8 bytes) refl)
  where
    go : (b : Bool) → is_utf8 bytes ≡ b → Refused NoLine ≡ cond b (meaning_of_words known (words_of bytes)) (Refused NoLine)
    go true h = absurd (none (IsUtf8-from_is_utf8 bytes h))
    go false h = refl

-- ---- owners

there : {X : Type 0} (list : List X) (place : ℕ) (x : X) → slice_get list place ≡ Some x → place < length list
there list place x e = elim (cases_lt place (length list)) [
  | inl within ↦ within
  | inr past ↦ absurd (let f : None ≡ Some x = sym (slice_get_past list place past) ∙ e in cc)
]

there_through : (list : List (Option ℕ)) (place : ℕ) (x : ℕ) → option_and_then (λ owner. owner) (slice_get list place) ≡ Some x → place < length list
there_through list place x e = elim (cases_lt place (length list)) [
  | inl within ↦ within
  | inr past ↦ absurd (let f : None ≡ Some x = sym (ap (option_and_then (λ owner. owner)) (slice_get_past list place past)) ∙ e in cc)
]

-- what has an owner is one of those that there are
pub owned_is_there : (task_owners : List ℕ) (link_owners : List (Option ℕ)) (target : Target) (reporter : ℕ) → owner_of task_owners link_owners target ≡ Some reporter → IsInRange (length task_owners) (length link_owners) target
owned_is_there task_owners link_owners (Task task) reporter e = there task_owners task reporter e
owned_is_there task_owners link_owners (Link link) reporter e = there_through link_owners link reporter e
