use Rattle.board_log.proofs.Placing.{own_stands}
use Rattle.board_log.proofs.own_lists_stand_in_the_log.Goals as goal

pub returns : goal.returns
returns c = own_stands
