use Rattle.std.proofs.lemmas.Bool.{false≢true}
use Rattle.serde_json.specs.View.{view}
use Rattle.raw_document.proofs.JsonReading.{json_read, json_refused}
use Rattle.raw_shape.proofs.json.read_tree.Goals as goal

pub returns-in-Ok-clause-value : goal.returns-in-Ok-clause-value
returns-in-Ok-clause-value c = json_read c.args.bytes.now (view c.in-Ok.value) c.in-Ok.ensures.ok.0 c.in-Ok.ensures.ok.1

pub returns-else-is_memory-clause-not_json : goal.returns-else-is_memory-clause-not_json
returns-else-is_memory-clause-not_json c = λ _. json_refused c.args.bytes.now (c.in-Err.ensures.err (λ m. false≢true (c.if-is_memory.ensures.1 m)))
