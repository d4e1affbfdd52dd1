use Rattle.board_log.proofs.Rolling.{begins}
use Rattle.board_log.proofs.roll.OpenedRoll.new.Goals as goal

pub of_words-requires : goal.of_words-requires
of_words-requires c = begins
