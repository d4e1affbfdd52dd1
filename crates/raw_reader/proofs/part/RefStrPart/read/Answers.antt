use Rattle.raw_reader.proofs.Lists.{text_taken}
use Rattle.raw_reader.proofs.part.RefStrPart.read.Goals as goal

pub returns-clause-value : goal.returns-clause-value
returns-clause-value c = text_taken c.args._depth c.args.reader.now c.text.new.reader c.text.result c.text.ensures
