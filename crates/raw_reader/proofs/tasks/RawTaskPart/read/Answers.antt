use Rattle.std.proofs.Common.{Ok, refl, sym, ap, ◌∙◌}
use Rattle.raw_document.specs.Raw.{task_view}
use Rattle.raw_document.specs.Shape.{optional, has_only}
use Rattle.raw_document.specs.Forms.{task_at}
use Rattle.raw_reader.proofs.Shapes.{task_is}
use Rattle.raw_reader.proofs.tasks.RawTaskPart.read.Goals as goal

pub fill_slots-requires : goal.fill_slots-requires
unfolding optional has_only
fill_slots-requires c κs = ((refl, tt), (refl, refl, refl, refl))

pub returns-clause-value : goal.returns-clause-value
returns-clause-value c =
    let taken = c.in_ok-fill_slots.ensures.value in
    let s = c.fill_slots.new.slots in
    (taken.0, taken.1, ap (task_at c.args.version) taken.2.1 ∙ task_is c.args.version taken.2.0 s c.in_ok-slots.field-0 c.in_ok-slots-2.field-0 c.in_ok-slots.was c.in_ok-slots-2.was taken.2.2 ∙ ap (λ w. Ok (task_view (record { name = c.in_ok-slots.field-0; reporter = c.in_ok-slots-2.field-0; weight = w }))) (sym c.unwrap_or.ensures))
