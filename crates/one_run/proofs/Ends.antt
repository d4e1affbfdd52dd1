-- What was read and what was written end a call.
use Rattle.std.proofs.Common.{◌≡◌, ◌∙◌, ℕ, ◌+◌, true, false, ap, refl, subst, sym, List, Option, Some, None, Result, Ok, Err, IfOk}
use Rattle.std.specs.Prelude.{MatchResult}
use Rattle.std.specs.Io.KnownBytes.{Keeps}
use Rattle.bwe_io.specs.Bytes.{Takes}
use Rattle.bwe_io.specs.Faults.{HasRisen}
use Rattle.one_run.specs.declared.InputError.{InputError}
use Rattle.one_run.specs.declared.InputError.TheVariants.{ReadFault, TooLong, FarTooLong, OutOfMemory}
use Rattle.one_run.specs.Endings.{Reply, Lines, Served, IsInput, IsDue, answered, too_long, far_too_long, no_line, reads_input, Ending, done, read_fault, write_fault, out_of_memory, Writes, entirely, partly, IsSilent, max_long_input, too_long_line, far_too_long_line, usage_line}

pub Keeps-same : (known : Option (List ℕ)) → Keeps known known
Keeps-same None = tt
Keeps-same (Some bytes) = refl

module _ {Line S K : Type 0} (lines : Lines Line) (line : Option Line) (served : Served S K) where
  abbrev WritesAll : ℕ → List ℕ → ℕ → Type 0
  WritesAll status text result =
      Writes status text (served.written served.sink) (served.written served.sink_after) (served.write_faults served.sink) (served.write_faults served.sink_after) result

  abbrev IsStill : ℕ → ℕ → Type 0
  IsStill due result = IsSilent due (served.written served.sink) (served.written served.sink_after) result

  -- a text that was due, and the writing of it
  pub ending-writes : {status result : ℕ} {text : List ℕ} → IsDue lines line served status text → WritesAll status text result → Ending lines line served result
  ending-writes due (entirely appended) = done due appended
  ending-writes due (partly risen prefix) = write_fault due risen prefix

  -- arguments that are no command
  pub ending-usage : {result : ℕ} → line ≡ None → served.source_after ≡ served.source → WritesAll 2 usage_line result → Ending lines line served result
  ending-usage none same writes = ending-writes (no_line none same) writes

  -- memory ran out before anything was read
  pub ending-unparsed : served.source_after ≡ served.source → Keeps (served.written served.sink) (served.written served.sink_after) → Ending lines line served 6
  ending-unparsed same keeps = out_of_memory (λ _. same) keeps

  module _ (is : Line) (same : line ≡ Some is) where
    unread : (lines.reads is ≡ false → served.source_after ≡ served.source) → reads_input lines line ≡ false → served.source_after ≡ served.source
    unread untouched reads = untouched (sym (ap (reads_input lines) same) ∙ reads)

    -- the answer for an input, or memory ran out for it
    pub ending-finished : {E : Type 0} {input : List ℕ} {result : ℕ} → (lines.reads is ≡ false → served.source_after ≡ served.source)
        → IsInput served.left served.source served.source_after (lines.reads is) input → lines.is_too_long is input ≡ false
        → (answer : Result Reply E) → IfOk answer (λ reply. lines.replies is input reply)
        → MatchResult answer (λ reply. WritesAll reply.status reply.text result) (λ _. IsStill 6 result)
        → Ending lines line served result
    ending-finished untouched input short (Ok reply) replied writes = ending-writes (answered same input short replied) writes
    ending-finished untouched input short (Err error) replied still =
        subst (λ status. Ending lines line served status) (sym still.status_is) (out_of_memory (unread untouched) still.keeps)

    -- an input that could not be read, or is too long
    pub ending-refused : {result : ℕ} → (lines.reads is ≡ false → served.source_after ≡ served.source) → (error : InputError)
        → (error ≡ ReadFault → (lines.reads is ≡ true) × HasRisen (served.read_faults served.source) (served.read_faults served.source_after))
        → (error ≡ TooLong → (input : List ℕ) × IsInput served.left served.source served.source_after (lines.reads is) input × (lines.is_too_long is input ≡ true))
        → (error ≡ FarTooLong → (lines.reads is ≡ true) × Takes (max_long_input + 1) (served.left served.source) (served.left served.source_after))
        → (error ≡ ReadFault → IsStill 4 result) → (error ≡ TooLong → WritesAll 8 too_long_line result) → (error ≡ FarTooLong → WritesAll 8 far_too_long_line result)
        → (error ≡ OutOfMemory → IsStill 6 result) → Ending lines line served result
    ending-refused untouched ReadFault risen long taken fault longer far memory =
        subst (λ status. Ending lines line served status) (sym (fault refl).status_is)
        (read_fault same (risen refl).0 (risen refl).1 (fault refl).keeps)
    ending-refused untouched TooLong risen long taken fault longer far memory =
        ending-writes (too_long same (long refl).1 (long refl).2) (longer refl)
    ending-refused untouched FarTooLong risen long taken fault longer far memory =
        ending-writes (far_too_long same (taken refl).0 (taken refl).1) (far refl)
    ending-refused untouched OutOfMemory risen long taken fault longer far memory =
        subst (λ status. Ending lines line served status) (sym (memory refl).status_is) (out_of_memory (unread untouched) (memory refl).keeps)
