use Rattle.std.proofs.Common.{refl}
use Rattle.one_run.specs.Endings.{nothing, whole}
use Rattle.one_run.proofs.read_input.Goals as goal

pub returns-then-not-reads-clause-input : goal.returns-then-not-reads-clause-input
returns-then-not-reads-clause-input g c = rw (c.if-not-reads.true, c.new.ensures.items) (nothing refl)

pub returns-in-Ok-clause-input : goal.returns-in-Ok-clause-input
returns-in-Ok-clause-input g c =
    rw c.if-not-reads.false (whole c.in-Ok.ensures.whole c.in-Ok.ensures.end (rw c.in-Ok.input.ok.0 at c.in-Ok.ensures.within))
