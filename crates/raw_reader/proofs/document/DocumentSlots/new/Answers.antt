use Rattle.std.proofs.Common.{refl}
use Rattle.raw_document.specs.Shape.{optional, has_only}
use Rattle.raw_reader.proofs.document.DocumentSlots.new.Goals as goal

pub returns : goal.returns
unfolding optional has_only
returns c version = (refl, refl, refl, refl, refl, refl, refl, refl)
