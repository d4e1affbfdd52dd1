use Rattle.board_log.proofs.Placing.{own_reports}
use Rattle.board_log.proofs.own_lists_are_the_reports.Goals as goal

pub returns : goal.returns
returns c = own_reports
