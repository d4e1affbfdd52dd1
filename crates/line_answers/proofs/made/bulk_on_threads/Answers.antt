use Rattle.std.proofs.Common.{ap, ◌∙◌}
use Rattle.std.proofs.lemmas.Result.{IfOk-weaker}
use Rattle.doc_maker.proofs.accepting.Accepted.{made_documents_are_accepted}
use Rattle.doc_maker.specs.Made.{Size}
use Rattle.line_answers.specs.MadeLines.{summary_of}
use Rattle.line_answers.proofs.made.bulk_on_threads.Goals as goal

-- no made document is refused
pub returns : goal.returns
returns g c =
    let size : Size = record { seed = c.args.seed; groups = c.args.groups; tasks = c.args.tasks } in
    IfOk-weaker c.read_summary_on_threads.result _ _ (λ answer e. e ∙ ap (summary_of size) (made_documents_are_accepted size c.requires)) c.read_summary_on_threads.ensures
