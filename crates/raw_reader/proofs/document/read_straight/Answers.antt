use Rattle.raw_reader.proofs.Texts.{of_bytes}
use Rattle.raw_reader.proofs.document.read_straight.Goals as goal

pub returns : goal.returns
returns c = of_bytes c.args.bytes.now c.in-Ok.text.now c.read_text.result c.in-Ok.ensures.cases.0 c.in-Ok.ensures.cases.1 c.read_text.ensures
