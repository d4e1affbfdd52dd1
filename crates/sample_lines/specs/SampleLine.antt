-- A line of samples: `<reporter> <task> <amount>`, with single blanks.
use Rattle.std.specs.Prelude.{ℕ, slice_get, Option, Some, None, if◌then◌else◌, option_and_then}
use Rattle.doc_names.specs.Owners.{is_owner}
use Rattle.text_scan.specs.Cuts.{cut_at}
use Rattle.text_scan.specs.Names.{number_of_name}
use Rattle.text_scan.specs.Numbers.{amount_in_range, printed_number_of}
use Rattle.text_scan.specs.Words.{Text}
use Rattle.sample_lines.specs.declared.sample.Sample.{Sample}
use Rattle.sample_lines.specs.Known.{Known}

infixl 10 ◌>>=◌
abbrev pub ◌>>=◌ : {A B : Type 0} → Option A → (A → Option B) → Option B
o >>= f = option_and_then f o

-- ---- the parts of a line

pub record Fields : Type 0 where
  pub reporter : Text
  pub task : Text
  pub amount : Text

-- the text of a line at its first two blanks (32)
unfoldable pub fields_of : Text → Option Fields
fields_of text = do
  first ← cut_at 32 text
  second ← cut_at 32 first.behind
  Some (record { reporter = first.before; task = second.before; amount = second.behind })

-- a number as texts print it, that is at most the greatest amount
unfoldable pub amount_of : Text → Option ℕ
amount_of digits = option_and_then amount_in_range (printed_number_of digits)

-- ---- a sample

-- the sample of a text without its line feed: of a known task, by its owner
unfoldable pub sample_of : Known → Text → Option Sample
sample_of known text = do
  fields ← fields_of text
  reporter ← number_of_name known.names.reporters fields.reporter
  task ← number_of_name known.names.tasks fields.task
  amount ← amount_of fields.amount
  if is_owner (slice_get known.task_owners task) reporter
      then Some (record { reporter = reporter; task = task; amount = amount }) else None
