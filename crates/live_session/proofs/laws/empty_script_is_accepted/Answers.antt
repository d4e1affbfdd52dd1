use Rattle.live_session.proofs.EmptyScript.{empty_script}
use Rattle.live_session.proofs.laws.empty_script_is_accepted.Goals as goal

pub returns : goal.returns
returns c = empty_script
