use Rattle.std.proofs.Common.{arith, append-nil, length-drop}
use Rattle.std.proofs.lemmas.Grind.{common_steps}
use Rattle.bwe_io.proofs.Known.{given-more}
use Rattle.live_stream.proofs.memory.MemoryStream.take_piece.Goals as goal

pub returns-clause-taken : goal.returns-clause-taken
returns-clause-taken c = (
  grind (arith, common_steps),
  rw (← c.self.view_is, append-nil)
      (given-more c.self.inside.input.items c.args.buffer.now c.copy_from_slice.new.self c.self.inside.at c.min-count.result
      (grind (arith, common_steps)) (omega (arith, length-drop c.self.inside.at c.self.inside.input.items))),
)
