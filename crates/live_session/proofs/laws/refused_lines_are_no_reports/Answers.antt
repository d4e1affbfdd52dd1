use Rattle.live_session.proofs.Lawful.{refused}
use Rattle.live_session.proofs.laws.refused_lines_are_no_reports.Goals as goal

pub returns : goal.returns
returns c = refused
