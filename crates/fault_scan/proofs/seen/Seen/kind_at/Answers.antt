use Rattle.std.proofs.Common.{sym, ◌∙◌}
use Rattle.fault_scan.specs.declared.seen.Slot.{Slot}
use Rattle.fault_scan.specs.Seen.{is_named}
use Rattle.fault_scan.proofs.Keys.{place_is, no_place}
use Rattle.fault_scan.proofs.Slots.{any_field, kind_there, kind_nowhere}
use Rattle.fault_scan.proofs.seen.Seen.kind_at.Goals as goal

pub returns-in-Some : goal.returns-in-Some
returns-in-Some c =
    let ss = c.args.self.now.slots.items in
    let found = place_is (λ (s : Slot). is_named c.args.key.now s.field) ss c.in-Some.place (sym c.place_of.ensures ∙ c.in-Some.is) in
    kind_there c.args.key.now ss c.in-Some.place c.index.result.now found.0 found.1 (sym c.index.ensures)

pub returns-in-None : goal.returns-in-None
returns-in-None c =
    let ss = c.args.self.now.slots.items in
    let none = no_place (λ (s : Slot). is_named c.args.key.now s.field) ss (sym c.place_of.ensures ∙ c.in-None.is) in
    sym (kind_nowhere c.args.key.now ss (sym (any_field (is_named c.args.key.now) ss) ∙ none))
