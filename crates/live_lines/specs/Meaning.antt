-- What a line means under the names and owners of a document, or the first cause for which it is
-- refused.
use Rattle.std.specs.Prelude.{ℕ, Bool, true, false, ◌&&◌, ◌||◌, List, [], ◌∷◌, length, codes, nat_lt, Option, Some, None, Result, Ok, Err, option_map, option_and_then, if◌then◌else◌, ⊤}
use Rattle.std.specs.Str.{bytes_eq, is_utf8}
use Rattle.bwe_specs.specs.declared.report.Target.{Target}
use Rattle.bwe_specs.specs.declared.report.Target.TheVariants.{Task, Link}
use Rattle.bwe_specs.specs.declared.report.Report.{Report}
use Rattle.text_scan.specs.Names.{number_of_name}
use Rattle.text_scan.specs.Numbers.{amount_in_range, is_number, number_of}
use Rattle.text_scan.specs.Words.{Text, words_of}
use Rattle.live_lines.specs.declared.line.LineCause.{LineCause}
use Rattle.live_lines.specs.declared.line.LineCause.TheVariants.{NoLine, UnknownName, AmountOutOfRange, NotOwner}
use Rattle.live_lines.specs.declared.line.LineMeaning.{LineMeaning}
use Rattle.live_lines.specs.declared.line.LineMeaning.TheVariants.{NewReport, Post, State, Refused}
use Rattle.live_lines.specs.Known.{Known}
use Rattle.doc_names.specs.Owners.{owner_of, is_owner}

-- ---- steps, of which the first that fails gives the cause

infixl 10 ◌>>=◌
abbrev pub ◌>>=◌ : {A B : Type 0} → Result A LineCause → (A → Result B LineCause)
    → Result B LineCause
(Ok x) >>= f = f x
(Err cause) >>= f = Err cause

abbrev pub or_else : {A : Type 0} → LineCause → Option A → Result A LineCause
or_else cause None = Err cause
or_else cause (Some x) = Ok x

abbrev pub unless : LineCause → Bool → Result ⊤ LineCause
unless cause true = Ok tt
unless cause false = Err cause

-- ---- a report

-- one byte or more
abbrev pub is_word : Text → Bool
is_word text = nat_lt 0 (length text)

-- `demand REPORTER TASK AMOUNT` or `capacity REPORTER LINK AMOUNT`, whatever the names are; the
-- amount is one to 20 digits
abbrev pub is_report : Text → Text → Text → Text → Bool
is_report kind reporter name amount =
    (bytes_eq kind (codes "demand") || bytes_eq kind (codes "capacity"))
    && (is_word reporter && (is_word name && is_number amount))

-- a demand is of a task, and a capacity of a link
unfoldable pub target_named : Known → Text → Text → Option Target
target_named known kind name =
    if bytes_eq kind (codes "demand")
    then option_map (λ task. Task task) (number_of_name known.names.tasks name)
    else option_map (λ link. Link link) (number_of_name known.names.links name)

-- the amount of digits, where it is not above the greatest
unfoldable pub amount_of : Text → Option ℕ
amount_of digits = option_and_then amount_in_range (number_of digits)

-- the report of four words, or the first cause against it
unfoldable pub report_of : Known → Text → Text → Text → Text → Result Report LineCause
report_of known kind reporter name amount = do
  is_form ← unless NoLine (is_report kind reporter name amount)
  reporter_number ← or_else UnknownName (number_of_name known.names.reporters reporter)
  target ← or_else UnknownName (target_named known kind name)
  kilobits ← or_else AmountOutOfRange (amount_of amount)
  is_owned ← unless NotOwner
      (is_owner (owner_of known.task_owners known.link_owners target) reporter_number)
  Ok (record { reporter = reporter_number; target = target; amount = kilobits })

-- ---- a line

abbrev pub reported : Result Report LineCause → LineMeaning
reported (Ok report) = NewReport report
reported (Err cause) = Refused cause

-- `post` or `state`
unfoldable pub command_of : Text → LineMeaning
command_of word =
    if bytes_eq word (codes "post") then Post else if bytes_eq word (codes "state") then State
    else Refused NoLine

-- what words say: a command is one word, a report four
unfoldable pub meaning_of_words : Known → List Text → LineMeaning
meaning_of_words known [] = Refused NoLine
meaning_of_words known (word ∷ []) = command_of word
meaning_of_words known (kind ∷ reporter ∷ []) = Refused NoLine
meaning_of_words known (kind ∷ reporter ∷ name ∷ []) = Refused NoLine
meaning_of_words known (kind ∷ reporter ∷ name ∷ amount ∷ []) =
    reported (report_of known kind reporter name amount)
meaning_of_words known (kind ∷ reporter ∷ name ∷ amount ∷ more ∷ words) = Refused NoLine

-- what a line without its line feed says; a line that is too long or ends with the input is refused
unfoldable pub meaning_of : Known → Option Text → LineMeaning
meaning_of known None = Refused NoLine
meaning_of known (Some line) =
    if is_utf8 line then meaning_of_words known (words_of line) else Refused NoLine

-- where the line is a report, this holds of it
abbrev pub IfNewReport : LineMeaning → (Report → Type 0) → Type 0
IfNewReport (NewReport report) P = P report
IfNewReport Post P = Unit {0}
IfNewReport State P = Unit {0}
IfNewReport (Refused cause) P = Unit {0}
