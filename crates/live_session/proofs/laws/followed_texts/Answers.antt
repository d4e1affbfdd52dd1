use Rattle.live_session.proofs.KeptTexts.{followed_texts_are}
use Rattle.live_session.proofs.laws.followed_texts.Goals as goal

pub returns : goal.returns
returns c = followed_texts_are
