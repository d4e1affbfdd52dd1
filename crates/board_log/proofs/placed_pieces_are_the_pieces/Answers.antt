use Rattle.board_log.proofs.Placing.{placed_pieces}
use Rattle.board_log.proofs.placed_pieces_are_the_pieces.Goals as goal

pub returns : goal.returns
returns c = placed_pieces
