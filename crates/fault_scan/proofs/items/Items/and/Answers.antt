use Rattle.std.proofs.Common.{[], ◌∷◌, ◌++◌, sym, subst, arith, length-append}
use Rattle.raw_document.specs.Reading.{each}
use Rattle.fault_scan.specs.Kinds.{passed, at}
use Rattle.fault_scan.specs.Seen.{Tells}
use Rattle.fault_scan.proofs.Told.{next_tells}
use Rattle.fault_scan.proofs.items.Items.and.Goals as goal

pub returns : goal.returns
returns c = λ version kind d ds are tells. (
  omega (arith, length-append ds (d ∷ []), are.0),
  subst (λ r. Tells r (passed (each (at version kind) 0 (ds ++ d ∷ [])))) (sym c.earlier.ensures)
      (next_tells (at version kind) ds d c.args.found c.under-found.result c.args.self.found c.args.self.count are.0 are.1 c.under-found.ensures tells),
)
