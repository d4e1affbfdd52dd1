use Rattle.serde_json.specs.View.{view}
use Rattle.raw_document.specs.Shape.{function, field}
use Rattle.raw_document.proofs.Lists.{gives_itself}
use Rattle.raw_shape.proofs.shape.forms.function_in.Goals as goal

pub returns : goal.returns
returns c = gives_itself c.list_in.result (field c.args.key function (view c.args.value.now)) c.list_in.ensures
