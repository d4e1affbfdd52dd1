use Rattle.std.proofs.Common.{◌≡◌, ◌++◌, OnOk, codes, decimal, string_bytes, sym, subst}
use Rattle.enforcer_core.specs.declared.event.WorldAnswer.{WorldAnswer}
use Rattle.enforce_run.specs.EnforceText.{answer_line}
use Rattle.enforce_run.proofs.Texts.{on_line}
use Rattle.enforce_run.proofs.text.push_answer.Goals as goal

pub returns-in-Restarted : goal.returns-in-Restarted
unfolding answer_line
returns-in-Restarted c =
    let result = c.end_with_number-in-Restarted.result in
    let text = string_bytes c.end_with_number-in-Restarted.new.text in
    let old = string_bytes c.args.text.now in
    subst (λ (answer : WorldAnswer). OnOk result (text ≡ old ++ answer_line answer)) (sym c.in-Restarted.is)
    (on_line result old (codes "restarted floor ") (decimal c.in-Restarted.floor) (codes "\n") text c.end_with_number-in-Restarted.ensures)
