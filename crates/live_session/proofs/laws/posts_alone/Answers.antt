use Rattle.live_session.proofs.Lawful.{alone}
use Rattle.live_session.proofs.laws.posts_alone.Goals as goal

pub returns : goal.returns
returns c = alone
