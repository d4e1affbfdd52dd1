use Rattle.std.proofs.Common.{rules, arith, string_bytes, sym, ap, ◌≡◌}
use Rattle.std.specs.Prelude.{decimal}
use Rattle.std.proofs.lemmas.Fmt.{decimal_injective}
use Rattle.bwe_specs.specs.Allocation.{GroupLine}
use Rattle.doc_names.specs.NameTexts.{texts_of}
use Rattle.change_text.proofs.ChangeFacts.{nothing_put, ok_put, other_group, same_group}
use Rattle.change_text.proofs.change.push_changed_group.Goals as goal
use Rattle.change_text.proofs.change.push_changed_group.Goals.{then-before-after-via-then-before-after, then-before-after-via-else-before-after+then-before-after-2}

pub returns-then-is_equal_line : goal.returns-then-is_equal_line
returns-then-is_equal_line c =
    nothing_put (string_bytes c.args.text.now) _
    (same_group (texts_of c.args.names.now) c.args.earlier.now c.args.later.now c.args.group c.index-earlier-group.result c.index-later-group.result
    (omega arith) (omega arith) c.index-earlier-group.is c.index-later-group.is (search rules))

pub returns-then-before-after : goal.returns-then-before-after
returns-then-before-after c =
    ok_put c.push_group.result (string_bytes c.args.text.now) (string_bytes c.push_group.new.text) _ _ c.push_group.ensures
    (sym (other_group (texts_of c.args.names.now) c.args.earlier.now c.args.later.now c.args.group c.index-earlier-group.result c.index-later-group.result
    (omega arith) (omega arith) c.index-earlier-group.is c.index-later-group.is differ))
  where
    shares : (c.before-2.inside.share ≡ c.index-earlier-group.result.share) × (c.after.inside.share ≡ c.index-later-group.result.share)
    shares = (ap (λ (line : GroupLine). line.share) c.before-2.view_is, ap (λ (line : GroupLine). line.share) c.after.view_is)

    amounts : (c.before-2.inside.amount ≡ c.index-earlier-group.result.amount) × (c.after.inside.amount ≡ c.index-later-group.result.amount)
    amounts = (ap (λ (line : GroupLine). line.amount) c.before-2.view_is, ap (λ (line : GroupLine). line.amount) c.after.view_is)

    before : GroupLine
    before = c.index-earlier-group.result

    after : GroupLine
    after = c.index-later-group.result

    differ : (decimal before.share ≡ decimal after.share) × (decimal before.amount ≡ decimal after.amount) → ⊥
    differ same = elim c.then-before-after.branch [
      | then-before-after-via-then-before-after w ↦
          let one = decimal_injective before.share after.share (omega (arith, shares.0)) (omega (arith, shares.1)) same.0 in
          omega (arith, w.if-before-after.true, one, shares.0, shares.1)
      | then-before-after-via-else-before-after+then-before-after-2 w ↦
          let one = decimal_injective before.amount after.amount (omega (arith, amounts.0)) (omega (arith, amounts.1)) same.1 in
          omega (arith, w.if-before-after-2.true, one, amounts.0, amounts.1)
    ]
