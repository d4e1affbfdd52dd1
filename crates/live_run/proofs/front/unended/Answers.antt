use Rattle.std.proofs.Common.{sym, ◌∙◌}
use Rattle.one_run.specs.Endings.{max_input, max_long_input}
use Rattle.live_run.proofs.Fronts.{missing-unended, open-unended, short-unended, some-of}
use Rattle.live_run.proofs.front.unended.Goals as goal

pub returns-then-is_empty : goal.returns-then-is_empty
returns-then-is_empty c = (open-unended c.args.bytes.now c.requires, short-unended max_long_input c.args.bytes.now c.requires)

pub returns-then-is_number : goal.returns-then-is_number
returns-then-is_number c = (open-unended c.args.bytes.now c.requires, short-unended max_long_input c.args.bytes.now c.requires)

pub returns : goal.returns
returns c = (
  missing-unended c.args.bytes.now c.requires (some-of _ (sym c.is_empty.ensures ∙ c.if-is_empty.false)) (sym c.is_number.ensures ∙ c.if-is_number.false),
  short-unended max_input c.args.bytes.now c.requires,
)
