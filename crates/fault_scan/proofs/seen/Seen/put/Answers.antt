use Rattle.std.proofs.Common.{◌≡◌, Some, sym, ap, ◌∙◌}
use Rattle.std.specs.Prelude.{◌&&◌}
use Rattle.std.specs.List.{list_any}
use Rattle.serde_json.specs.Data.{put}
use Rattle.fault_scan.specs.declared.seen.Slot.{Slot}
use Rattle.fault_scan.specs.Seen.{is_named, fields_in, only}
use Rattle.fault_scan.proofs.Keys.{place_is, no_place, only_put, known_there}
use Rattle.fault_scan.proofs.Slots.{any_field, fields_set, put_slot, put_stranger}
use Rattle.fault_scan.proofs.seen.Seen.put.Goals as goal

pub returns-in-Some-clause-fields : goal.returns-in-Some-clause-fields
returns-in-Some-clause-fields c = fields_set c.args.self.now.slots.items c.in-Some.place c.index_mut.result.now (Some c.args.found) (sym c.index_mut.ensures.value)

pub returns-in-Some-clause-holds : goal.returns-in-Some-clause-holds
returns-in-Some-clause-holds c = λ version d found holds tells.
    let ss = c.args.self.now.slots.items in
    let key = c.args.key.now in
    let here = sym c.index_mut.ensures.value in
    let place = place_is (λ (s : Slot). is_named key s.field) ss c.in-Some.place (sym c.place_of.ensures ∙ c.in-Some.is) in
    let known : list_any (is_named key) (fields_in ss) ≡ _ = sym (any_field (is_named key) ss) ∙ known_there (λ (s : Slot). is_named key s.field) ss c.in-Some.place place.0 place.1 in (
      put_slot version found key d c.args.found ss c.in-Some.place c.index_mut.result.now c.requires place.0 place.1 here tells holds.0,
      ap (λ fs. only fs (put key d found)) (fields_set ss c.in-Some.place c.index_mut.result.now (Some c.args.found) here) ∙ only_put (fields_in ss) key d found ∙ ap (λ b. b && only (fields_in ss) found) known ∙ holds.1,
    )

pub returns-in-None-clause-holds : goal.returns-in-None-clause-holds
returns-in-None-clause-holds c = λ version d found holds tells.
    let ss = c.args.self.now.slots.items in
    let key = c.args.key.now in
    let none = sym (any_field (is_named key) ss) ∙ no_place (λ (s : Slot). is_named key s.field) ss (sym c.place_of.ensures ∙ c.in-None.is) in
    (put_stranger version found key d ss none holds.0, only_put (fields_in ss) key d found ∙ ap (λ b. b && only (fields_in ss) found) none)
