use Rattle.std.proofs.Common.{string_bytes}
use Rattle.change_text.proofs.ChangeFacts.{nothing_put, same_value}
use Rattle.change_text.proofs.change.push_changed_value.Goals as goal

pub returns-then-earlier-number : goal.returns-then-earlier-number
returns-then-earlier-number c =
    nothing_put (string_bytes c.args.text.now) _
    (same_value c.args.word.now c.args.between.now c.args.names.now c.args.earlier.now c.args.later.now c.args.number c.if-earlier-number.true)
