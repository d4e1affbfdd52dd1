use Rattle.std.proofs.Common.{◌≡◌, Bool, true, false, [], Err, refl, sym, ap, ◌∙◌, subst}
use Rattle.std.specs.Prelude.{◌||◌, ◌&&◌, not}
use Rattle.std.specs.List.{list_any}
use Rattle.serde_json.specs.Data.{object}
use Rattle.raw_document.specs.Reading.{check}
use Rattle.fault_scan.specs.Tables.{followed_by, in_order}
use Rattle.fault_scan.specs.Seen.{Tells, fields_in, is_missing}
use Rattle.fault_scan.proofs.Slots.{object_is}
use Rattle.fault_scan.proofs.Told.{here_tells}
use Rattle.fault_scan.proofs.seen.Seen.fault.Goals.{then-self-via-then-self, then-self-via-else-self+then-lacks}
use Rattle.fault_scan.proofs.seen.Seen.fault.Goals as goal

refused : (missing stranger : Bool) → (missing || stranger) ≡ true → check (not missing && not stranger) ≡ Err []
refused true stranger e = refl
refused false true e = refl
refused false false e = absurd cc

or_true : (a : Bool) → (a || true) ≡ true
or_true true = refl
or_true false = refl

pub returns-then-self : goal.returns-then-self
returns-then-self c = λ version found holds.
    let ss = c.args.self.slots.items in
    let missing = list_any is_missing ss in
    let bad : (missing || c.args.self.has_stranger) ≡ true = elim c.then-self.branch [
      | then-self-via-then-self w ↦ ap (λ b. missing || b) w.if-self.true ∙ or_true missing
      | then-self-via-else-self+then-lacks w ↦ ap (λ b. b || c.args.self.has_stranger) (sym (w.lacks.ensures ∙ ap (list_any is_missing) w.deref.ensures.value) ∙ w.if-lacks.true)
    ] in
    here_tells c.here.result _ c.here.ensures (ap (λ r. followed_by r (in_order version (fields_in ss) (object found))) (object_is version found ss c.args.self.has_stranger holds.0 holds.1 ∙ refused missing c.args.self.has_stranger bad))

pub returns : goal.returns
returns c = λ version found holds.
    let ss = c.args.self.slots.items in
    let none : list_any is_missing ss ≡ false = sym (c.lacks.ensures ∙ ap (list_any is_missing) c.deref.ensures.value) ∙ c.if-lacks.false in
    let whole = object_is version found ss c.args.self.has_stranger holds.0 holds.1 ∙ ap (λ b. check (not b && not c.args.self.has_stranger)) none ∙ ap (λ b. check (not b)) c.if-self.false in
    subst (λ r. Tells c.first_fault.result (followed_by r (in_order version (fields_in ss) (object found)))) (sym whole) (c.first_fault.ensures version found holds.0 none)
