use Rattle.serde_json.specs.View.{view}
use Rattle.raw_document.specs.Shape.{function}
use Rattle.raw_document.proofs.Lists.{gives_itself}
use Rattle.raw_shape.proofs.shape.forms.function_of.Goals as goal

pub returns : goal.returns
returns c = gives_itself c.read.result (function (view c.args.value.now)) c.read.ensures
