use Rattle.std.proofs.Common.{rules, string_bytes, sym, ◌∙◌}
use Rattle.doc_names.specs.NameTexts.{texts_of}
use Rattle.table_text.specs.TableText.{group_lines}
use Rattle.change_text.proofs.ChangeFacts.{nothing_put, other_texts, piece_put, same_texts}
use Rattle.change_text.proofs.change.push_other_text.Goals as goal

pub returns-then-eq : goal.returns-then-eq
returns-then-eq c =
    nothing_put (string_bytes c.args.text.now) _
    (same_texts (group_lines (texts_of c.args.names.now) c.args.earlier.now) (group_lines (texts_of c.args.names.now) c.args.later.now) c.args.group c.as_str.result.now c.as_str-2.result.now
    (c.as_str.ensures.value ∙ c.in_ok-before.ensures) (c.as_str-2.ensures.value ∙ c.in_ok-after.ensures) (sym c.eq.ensures ∙ c.if-eq.true))

pub returns : goal.returns
returns c =
    piece_put c.push_str.result (string_bytes c.args.text.now) (string_bytes c.push_str.new.self) c.as_str-3.result.now _ (search rules)
    (c.as_str-3.ensures.value ∙ c.in_ok-after.ensures ∙ sym (other_texts (group_lines (texts_of c.args.names.now) c.args.earlier.now) (group_lines (texts_of c.args.names.now) c.args.later.now) c.args.group c.as_str.result.now c.as_str-2.result.now
    (c.as_str.ensures.value ∙ c.in_ok-before.ensures) (c.as_str-2.ensures.value ∙ c.in_ok-after.ensures) (sym c.eq.ensures ∙ c.if-eq.false)))
