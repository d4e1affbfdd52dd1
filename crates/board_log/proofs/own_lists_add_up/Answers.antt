use Rattle.board_log.proofs.Placing.{own_lists_add}
use Rattle.board_log.proofs.own_lists_add_up.Goals as goal

pub returns : goal.returns
returns c = own_lists_add
