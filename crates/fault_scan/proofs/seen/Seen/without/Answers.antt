use Rattle.std.proofs.Common.{◌≡◌, ◌<◌, sym, ap, ap₂, ◌∙◌, subst}
use Rattle.std.specs.Prelude.{◌||◌, ◌&&◌, not, is_some}
use Rattle.serde_json.specs.Find.{get_member}
use Rattle.raw_document.specs.Words.{word}
use Rattle.fault_scan.specs.Seen.{SlotsAre, fields_in, only}
use Rattle.fault_scan.proofs.Keys.{only_remove, not_either}
use Rattle.fault_scan.proofs.Slots.{fields_remove, slots_remove, slot_there, field_there, seen_is, fields_length}
use Rattle.fault_scan.proofs.seen.Seen.without.Goals.{then-has_stranger, else-has_stranger}
use Rattle.fault_scan.proofs.seen.Seen.without.Goals as goal

pub returns-clause-fields : goal.returns-clause-fields
returns-clause-fields c = ap fields_in c.remove-slot.ensures.items ∙ fields_remove c.args.self.slots.items c.args.place

pub returns-clause-holds : goal.returns-clause-holds
returns-clause-holds c = λ version found holds.
    let ss = c.args.self.slots.items in
    let s = c.remove-slot.result in
    let here = sym c.remove-slot.ensures.value in
    let there : is_some (get_member (word s.field.key) found) ≡ is_some s.found = seen_is version s.field.kind s.found _ (slot_there version found ss c.args.place s c.requires.some here holds.0) in
    let either : c.if-has_stranger.result ≡ (c.args.self.has_stranger || is_some s.found) = elim c.if-has_stranger.branch [ then-has_stranger w ↦ w.result-is ∙ w.if-has_stranger.true ∙ sym (ap (λ b. b || is_some s.found) w.if-has_stranger.true) | else-has_stranger w ↦ w.result-is ∙ w.is_some.ensures ∙ sym (ap (λ b. b || is_some s.found) w.if-has_stranger.false) ] in (
      subst (SlotsAre version found) (sym c.remove-slot.ensures.items) (slots_remove version found ss c.args.place holds.0),
      ap (λ fs. only fs found) (ap fields_in c.remove-slot.ensures.items ∙ fields_remove ss c.args.place)
          ∙ only_remove (fields_in ss) c.args.place s.field found c.requires.apart (subst (λ n. c.args.place < n) (sym (fields_length ss)) c.requires.some) (field_there ss c.args.place s c.requires.some here)
          ∙ ap₂ (λ a b. a && not b) holds.1 there ∙ sym (ap not either ∙ not_either c.args.self.has_stranger (is_some s.found)),
    )
