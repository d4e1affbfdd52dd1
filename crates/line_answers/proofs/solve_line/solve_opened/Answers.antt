use Rattle.std.proofs.Common.{ℕ, List, ap, ◌∙◌}
use Rattle.one_run.specs.Endings.{Reply}
use Rattle.doc_names.specs.NameTexts.{texts_of}
use Rattle.table_text.specs.TableText.{text_of}
use Rattle.line_answers.proofs.solve_line.solve_opened.Goals as goal

abbrev reply_of : List ℕ → Reply
reply_of text = record { status = 0; text = text }

pub returns : goal.returns
returns c = λ script after.
    ap reply_of (c.in_ok-text.ensures ∙ ap (text_of (texts_of c.args.opened.now.names)) (c.in_ok-table.ensures.table script after))
