use Rattle.mpfa_fill.specs.GroupValues.{Values}
use Rattle.bottleneck_cert.proofs.judged.Given as goal

abbrev pub ghosts-judged_by : goal.ghosts-judged_by
ghosts-judged_by g a = record { value = (g.V.GroupValues.meaning a.values.now).value }
