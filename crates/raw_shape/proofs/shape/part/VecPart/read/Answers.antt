use Rattle.std.proofs.Common.{Some, ap, ◌∙◌}
use Rattle.serde_json.specs.View.{view, items_view}
use Rattle.raw_document.proofs.Lists.{list_gives}
use Rattle.raw_shape.proofs.shape.part.VecPart.read.Goals as goal

pub returns-in-Some : goal.returns-in-Some
returns-in-Some g c =
    list_gives g.T.Part.shown (g.T.Part.shape c.args.version) (view c.args.value.now) c.deref.result.now c.each_of.result
    (ap (λ items. Some (items_view items)) c.deref.ensures.value ∙ c.in-Some.ensures) c.each_of.ensures
