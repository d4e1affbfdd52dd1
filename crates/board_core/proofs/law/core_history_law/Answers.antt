use Rattle.board_core.proofs.Runs.{history}
use Rattle.board_core.proofs.law.core_history_law.Goals as goal

pub returns : goal.returns
returns c = history
