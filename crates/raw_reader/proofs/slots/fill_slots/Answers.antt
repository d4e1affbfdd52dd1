use Rattle.std.proofs.Common.{sym, subst}
use Rattle.std.specs.Prelude.{OnSome}
use Rattle.raw_reader.specs.Takes.{TakesObject}
use Rattle.raw_reader.proofs.slots.fill_slots.Goals as goal

pub returns-clause-value : goal.returns-clause-value
returns-clause-value g c =
    subst (λ ts. OnSome c.fill_members.result (TakesObject c.args.depth ts c.fill_members.new.reader (g.S.Slots.holds c.args.version c.fill_members.new.slots))) (sym c.in_ok-open_object.ensures.0) c.fill_members.ensures.value
