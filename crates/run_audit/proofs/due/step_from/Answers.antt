use Rattle.std.proofs.Common.{length}
use Rattle.run_audit.proofs.Dues.{due_here}
use Rattle.run_audit.proofs.due.step_from.Goals as goal

pub returns-in-Reader-clause-due : goal.returns-in-Reader-clause-due
returns-in-Reader-clause-due c = due_here c.after_reader.result c.args.total (length c.args.scripts.now) c.after_reader.ensures.due

pub returns-in-Line-clause-due : goal.returns-in-Line-clause-due
returns-in-Line-clause-due c = due_here c.after_shown.result c.args.total (length c.args.scripts.now) c.after_shown.ensures.due

pub returns-in-Next-clause-due : goal.returns-in-Next-clause-due
returns-in-Next-clause-due c = due_here c.after_reader-in-Next.result c.args.total (length c.args.scripts.now) c.after_reader-in-Next.ensures.due
