use Rattle.change_text.proofs.ChangedFacts.{changed_is_later}
use Rattle.change_text.proofs.laws.changed_text_is_later_text.Goals as goal

pub returns : goal.returns
returns c = changed_is_later
