use Rattle.one_run.specs.Endings.{entirely, partly}
use Rattle.one_run.proofs.write_text.Goals as goal

pub returns-in-Ok : goal.returns-in-Ok
returns-in-Ok g c = entirely c.in-Ok.ensures.whole

pub returns-in-Err : goal.returns-in-Err
returns-in-Err g c = partly c.in-Err.ensures.fault c.in-Err.ensures.prefix
