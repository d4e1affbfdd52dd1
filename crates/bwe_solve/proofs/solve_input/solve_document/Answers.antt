use Rattle.std.proofs.Common.{ℕ, List, ap, ◌∙◌}
use Rattle.one_run.specs.Endings.{Reply}
use Rattle.doc_names.specs.NameTexts.{texts_of}
use Rattle.table_text.specs.TableText.{text_of}
use Rattle.bwe_solve.proofs.solve_input.solve_document.Goals as goal

abbrev reply_of : List ℕ → Reply
reply_of text = record { status = 0; text = text }

pub returns : goal.returns
returns c =
    let table = rw c.deref.ensures.value at c.in_ok-table.ensures in
    ap reply_of (c.in_ok-text.ensures ∙ ap (text_of (texts_of c.args.document.names)) table)
