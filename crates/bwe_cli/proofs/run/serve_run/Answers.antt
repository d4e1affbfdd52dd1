use Rattle.std.proofs.Common.{refl, ap, Err}
use Rattle.command_line.specs.declared.CommandLine.TheVariants.{Run}
use Rattle.one_run.proofs.Ends.{ending-finished, ending-refused}
use Rattle.bwe_cli.proofs.run.serve_run.Goals as goal

pub returns-in-Ok : goal.returns-in-Ok
returns-in-Ok g c =
    ending-finished _ _ _ (Run c.args.readers c.args.reads) refl c.in-Ok.ensures.untouched c.in-Ok.ensures.input c.in-Ok.ensures.short
    c.run.result c.run.ensures c.finish.ensures

pub returns-in-Err : goal.returns-in-Err
returns-in-Err g c =
    ending-refused _ _ _ (Run c.args.readers c.args.reads) refl c.in-Err.ensures.untouched
    c.in-Err.error (λ is. c.in-Err.ensures.fault (ap Err is)) (λ is. c.in-Err.ensures.too_long (ap Err is)) (λ is. c.in-Err.ensures.far_too_long (ap Err is))
    c.refuse_input.ensures.fault c.refuse_input.ensures.too_long c.refuse_input.ensures.far_too_long c.refuse_input.ensures.memory
