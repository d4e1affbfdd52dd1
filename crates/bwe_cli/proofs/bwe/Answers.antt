use Rattle.std.proofs.Common.{refl, sym, ◌∙◌}
use Rattle.one_run.proofs.Ends.{Keeps-same, ending-usage, ending-unparsed}
use Rattle.bwe_cli.proofs.bwe.Goals as goal

pub returns-in-Ok-None : goal.returns-in-Ok-None
returns-in-Ok-None g c = ending-usage _ _ _ (sym c.in-Ok-None.ensures.line ∙ c.in-Ok-None.field-0-is) refl c.write_usage.ensures

pub returns-in-Err : goal.returns-in-Err
returns-in-Err g c = ending-unparsed _ _ _ refl (Keeps-same _)
