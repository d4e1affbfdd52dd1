use Rattle.std.proofs.Common.{refl}
use Rattle.raw_document.specs.Reading.{each}
use Rattle.fault_scan.proofs.items.Items.new.Goals as goal

pub returns : goal.returns
unfolding each
returns c = λ version kind. (refl, refl)
