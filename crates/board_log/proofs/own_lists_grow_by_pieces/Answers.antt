use Rattle.board_log.proofs.Placing.{own_more}
use Rattle.board_log.proofs.own_lists_grow_by_pieces.Goals as goal

pub returns : goal.returns
returns c = own_more
