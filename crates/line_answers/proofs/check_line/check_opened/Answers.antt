use Rattle.std.proofs.Common.{ℕ, List, ap, ap₂, ◌∙◌}
use Rattle.one_run.specs.Endings.{Reply}
use Rattle.doc_names.specs.NameTexts.{texts_of}
use Rattle.reply_text.specs.CheckText.{verdict_line}
use Rattle.line_answers.specs.Replies.{verdict_status}
use Rattle.line_answers.proofs.check_line.check_opened.Goals as goal

abbrev reply_parts : ℕ → List ℕ → Reply
reply_parts status text = record { status = status; text = text }

pub returns : goal.returns
returns c = λ script after.
    let found = rw (c.deref.ensures.value) at c.in_ok-verdict.ensures in
    let judged = found script after in
    ap₂ reply_parts (c.status_of.ensures ∙ ap verdict_status judged) (c.in_ok-check_text.ensures ∙ ap (verdict_line (texts_of c.args.opened.names)) judged)
