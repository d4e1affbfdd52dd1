use Rattle.std.proofs.Common.{map, ap, ◌∙◌, arith}
use Rattle.std.proofs.lemmas.List.{take_all}
use Rattle.plain_table.proofs.limits.amounts_of.Goals as goal

pub returns : goal.returns
returns c =
    c.loop-line.invariant ∙ ap (map (λ line. line.amount)) (take_all c.loop-line.line-index c.args.groups.now (omega arith))
