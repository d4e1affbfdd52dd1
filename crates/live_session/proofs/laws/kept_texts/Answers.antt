use Rattle.live_session.proofs.KeptTexts.{kept_texts_are}
use Rattle.live_session.proofs.laws.kept_texts.Goals as goal

pub returns : goal.returns
returns c = kept_texts_are
