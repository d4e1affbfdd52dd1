use Rattle.std.proofs.Common.{◌∙◌, ap, subst, sym}
use Rattle.doc_names.specs.NameTexts.{texts_of}
use Rattle.run_text.specs.RunText.{run_text_of}
use Rattle.plan_doc.specs.Plans.{plan_in}
use Rattle.top_call.specs.RunLine.{IsRunReply}
use Rattle.bwe_cli.proofs.RunReply.{run-reply, sent-few}
use Rattle.bwe_cli.proofs.run.run.Goals as goal

pub run_text-requires-clause-reporters : goal.run_text-requires-clause-reporters
run_text-requires-clause-reporters g c =
    sent-few (plan_in c.in-Ok.document) c.in-Ok.document c.args.readers _ c.in_ok-log.log c.in_ok-log.ensures.log c.in-Ok.ensures.usable.few_reporters

pub returns : goal.returns
returns g c =
    let read = rw c.deref.ensures.value at c.in-Ok.ensures.exact in
    let run = rw (c.from.ensures) at c.in_ok-log.ensures.log in
    let printed = c.in_ok-run_text.ensures ∙ ap (λ names. run_text_of (texts_of names) c.in_ok-log.log) c.in_ok-log.ensures.names in
    subst (λ answer. IsRunReply c.args.readers c.args.reads answer (record { status = 0; text = c.in_ok-run_text.field-0.items })) (sym read.1)
    (run-reply read.0 c.in-Ok.document read.2 c.args.readers c.args.reads c.in_ok-log.log run c.in_ok-log.ensures.closed c.in_ok-run_text.field-0.items printed)
