use Rattle.raw_reader.proofs.Lists.{number_taken}
use Rattle.raw_reader.proofs.part.U64Part.read.Goals as goal

pub returns-clause-value : goal.returns-clause-value
returns-clause-value c = number_taken c.args._depth c.args.reader.now c.number.new.reader c.number.result c.number.ensures
