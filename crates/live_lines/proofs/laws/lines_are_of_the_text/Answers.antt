use Rattle.live_lines.proofs.CutterFacts.{lines_are}
use Rattle.live_lines.proofs.laws.lines_are_of_the_text.Goals as goal

pub returns : goal.returns
returns c = lines_are
