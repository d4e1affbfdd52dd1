use Rattle.std.proofs.Common.{IfSome, subst, sym}
use Rattle.std.proofs.lemmas.Result.{IfOk-weaker}
use Rattle.command_line.specs.Lines.{texts_of}
use Rattle.command_line.specs.Ranges.{IsInRange}
use Rattle.command_line.proofs.Ranges.{texts-in_range}
use Rattle.command_line.proofs.command_line_of_words.Goals as goal

pub returns-clause-range : goal.returns-clause-range
returns-clause-range c =
    IfOk-weaker c.line_split.result _ _
    (λ line is. subst (λ line. IfSome line IsInRange) (sym is) (texts-in_range (texts_of c.args.words.now)))
    c.line_split.ensures
