use Rattle.top_call.proofs.Statuses.{an-answer-is-whole}
use Rattle.top_call.proofs.laws.an_answer_is_whole.Goals as goal

pub returns : goal.returns
returns g c = an-answer-is-whole _ _
