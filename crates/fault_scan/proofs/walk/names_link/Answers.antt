use Rattle.std.proofs.Common.{get_or, sym, ap, ◌∙◌}
use Rattle.std.specs.Prelude.{◌||◌, is_some}
use Rattle.fault_scan.proofs.Entries.{link_named, any_slot}
use Rattle.fault_scan.proofs.walk.names_link.Goals as goal

pub returns-then-has : goal.returns-then-has
returns-then-has c = λ version found holds.
    let ss = c.args.seen.now.slots.items in
    c.if-has.true ∙ sym (ap (λ b. b || is_some (get_or ss 4 any_slot).found) (sym (c.has.ensures any_slot) ∙ c.if-has.true)) ∙ link_named version found ss any_slot c.requires holds.0

pub returns-else-has : goal.returns-else-has
returns-else-has c = λ version found holds.
    let ss = c.args.seen.now.slots.items in
    c.has-else-has.ensures any_slot ∙ sym (ap (λ b. b || is_some (get_or ss 4 any_slot).found) (sym (c.has.ensures any_slot) ∙ c.if-has.false)) ∙ link_named version found ss any_slot c.requires holds.0
