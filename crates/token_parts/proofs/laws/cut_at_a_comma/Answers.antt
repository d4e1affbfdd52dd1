use Rattle.token_parts.proofs.Cut.{tokens-first}
use Rattle.token_parts.proofs.laws.cut_at_a_comma.Goals as goal

pub returns : goal.returns
returns c = tokens-first
