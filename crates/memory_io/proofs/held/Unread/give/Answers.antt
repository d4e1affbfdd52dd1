use Rattle.std.proofs.Common.{arith, length-drop}
use Rattle.std.proofs.lemmas.Grind.{common_steps}
use Rattle.bwe_io.proofs.Known.{given-more}
use Rattle.memory_io.proofs.held.Unread.give.Goals as goal

pub returns-clause-given : goal.returns-clause-given
returns-clause-given c =
    rw (← c.self.view_is)
    (given-more c.self.inside.bytes.items c.args.buffer.now c.copy_from_slice.new.self c.self.inside.at c.min-count.result
    (grind (arith, common_steps)) (omega (arith, length-drop c.self.inside.at c.self.inside.bytes.items)))
