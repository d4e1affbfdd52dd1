use Rattle.std.proofs.Common.{ℕ, suc, ◌+◌, ◌<◌, ◌++◌, List, length, drop, sym, ap, ◌∙◌, arith, add-one, append_assoc, string_bytes}
use Rattle.crew_log.specs.declared.log.ReaderLog.{ReaderLog}
use Rattle.doc_names.specs.NameTexts.{texts_of}
use Rattle.run_text.specs.RunText.{numbered, reader_lines}
use Rattle.run_text.proofs.Numbered.{numbered_more}
use Rattle.run_text.proofs.reader.push_readers.Goals as goal

pub loop-number-preserved : goal.loop-number-preserved
loop-number-preserved c =
    let n = c.loop-number.number in
    let readers = c.args.readers.now in
    let reader = c.index-readers-number.result in
    let old = string_bytes c.loop-number.text in
    let lines : ℕ → ReaderLog → List ℕ = reader_lines (texts_of c.args.names.now) c.args.history in
    let rest : List ℕ = numbered lines (suc n) (drop (n + 1) readers) in
    let inside : n < length readers = omega arith in
    ap (λ (k : ℕ). string_bytes c.push_reader.new.text ++ numbered lines k (drop (n + 1) readers)) (add-one n)
    ∙ ap (λ (text : List ℕ). text ++ rest) c.in_ok-push_reader.ensures
    ∙ append_assoc old (lines n reader) rest
    ∙ ap (λ (text : List ℕ). old ++ text) (sym (numbered_more lines n readers n reader inside ∙ ap (λ (r : ReaderLog). lines n r ++ rest) (sym c.index-readers-number.is)))
    ∙ c.loop-number.invariant
