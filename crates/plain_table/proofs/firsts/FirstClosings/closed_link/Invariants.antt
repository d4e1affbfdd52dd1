use Rattle.std.proofs.Common.{take}
use Rattle.plain_table.proofs.FirstOfLinks.{IsFirstOf}
use Rattle.plain_table.proofs.firsts.FirstClosings.closed_link.Given as goal

abbrev pub invariant-loop-part : goal.invariant-loop-part
invariant-loop-part l = IsFirstOf l.self (take l.part-index l.part-items) l.first
