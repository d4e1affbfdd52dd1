use Rattle.raw_reader.proofs.Texts.{of_bytes}
use Rattle.raw_reader.proofs.on_threads.read_straight_on_threads.Goals as goal

pub returns : goal.returns
returns g c = of_bytes c.args.bytes.now c.in-Ok.text.now c.read_text_on_threads.result c.in-Ok.ensures.cases.0 c.in-Ok.ensures.cases.1 c.read_text_on_threads.ensures
