use Rattle.live_lines.proofs.CutterFacts.{pieces_agree}
use Rattle.live_lines.proofs.laws.pieces_do_not_matter.Goals as goal

pub returns : goal.returns
returns c = pieces_agree
