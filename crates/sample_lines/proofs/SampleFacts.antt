-- The sample of a line, by its parts.
use Rattle.std.proofs.Common.{◌≡◌, ℕ, Bool, cond, Option, Some, None, refl, sym}
use Rattle.std.specs.Prelude.{slice_get}
use Rattle.text_scan.specs.Names.{number_of_name}
use Rattle.text_scan.specs.Words.{Text}
use Rattle.sample_lines.specs.declared.sample.Sample.{Sample}
use Rattle.sample_lines.specs.Known.{Known}
use Rattle.sample_lines.specs.SampleLine.{Fields, amount_of, fields_of, sample_of}
use Rattle.doc_names.specs.Owners.{is_owner}

abbrev pub sample_by : Bool → ℕ → ℕ → ℕ → Option Sample
sample_by owns reporter task amount = cond owns (let made : Sample = record { reporter = reporter; task = task; amount = amount } in Some made) None

pub sample_is : (known : Known) (text : Text) (fields : Fields) (reporter task amount : ℕ) (owns : Bool) → Some fields ≡ fields_of text → Some reporter ≡ number_of_name known.names.reporters fields.reporter
    → Some task ≡ number_of_name known.names.tasks fields.task → Some amount ≡ amount_of fields.amount → owns ≡ is_owner (slice_get known.task_owners task) reporter
    → sample_by owns reporter task amount ≡ sample_of known text
unfolding sample_of
sample_is known text fields reporter task amount owns cut by of much owned = sym (rw (sym cut, sym by, sym of, sym much, sym owned) refl)

pub no_task : (known : Known) (text : Text) (fields : Fields) (reporter : ℕ) → Some fields ≡ fields_of text → Some reporter ≡ number_of_name known.names.reporters fields.reporter
    → None ≡ number_of_name known.names.tasks fields.task → None ≡ sample_of known text
unfolding sample_of
no_task known text fields reporter cut by none = sym (rw (sym cut, sym by, sym none) refl)
