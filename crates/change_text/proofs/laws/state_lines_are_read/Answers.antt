use Rattle.change_text.proofs.StateFacts.{lines_are_read}
use Rattle.change_text.proofs.laws.state_lines_are_read.Goals as goal

pub returns : goal.returns
returns c = lines_are_read
