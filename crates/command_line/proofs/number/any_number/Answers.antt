use Rattle.std.proofs.Common.{◌∙◌}
use Rattle.command_line.proofs.Numbers.{the_number}
use Rattle.command_line.proofs.number.any_number.Goals as goal

pub returns : goal.returns
returns c = (rw c.as_bytes.ensures.value at c.number_of.ensures) ∙ the_number c.args.text.now
