use Rattle.std.proofs.Common.{ℕ, List, ap, ◌∙◌}
use Rattle.one_run.specs.Endings.{Reply}
use Rattle.reply_text.specs.BulkText.{bulk_text_of}
use Rattle.line_answers.proofs.made.summary_opened_on_threads.Goals as goal

abbrev reply_of : List ℕ → Reply
reply_of text = record { status = 0; text = text }

pub returns : goal.returns
returns g c = λ script after.
    ap reply_of (c.in_ok-bulk_text.ensures ∙ ap (bulk_text_of c.args.groups c.args.tasks) (c.in_ok-table.ensures.table script after))
