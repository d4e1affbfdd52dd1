use Rattle.std.proofs.Common.{refl, ap, ◌∙◌}
use Rattle.raw_document.specs.Shape.{optional, has_only}
use Rattle.raw_document.specs.Forms.{path_at}
use Rattle.raw_reader.proofs.Shapes.{path_is}
use Rattle.raw_reader.proofs.groups.RawPathPart.read.Goals as goal

pub fill_slots-requires : goal.fill_slots-requires
unfolding optional has_only
fill_slots-requires c κs = ((refl, tt), (refl, refl, refl))

pub returns-clause-value : goal.returns-clause-value
returns-clause-value c =
    let taken = c.in_ok-fill_slots.ensures.value in
    let s = c.fill_slots.new.slots in
    (taken.0, taken.1, ap path_at taken.2.1 ∙ path_is c.args.version taken.2.0 s c.in_ok-slots.field-0 c.in_ok-slots-2.field-0 c.in_ok-slots.was c.in_ok-slots-2.was taken.2.2)
