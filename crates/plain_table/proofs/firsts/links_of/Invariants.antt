use Rattle.std.proofs.Common.{ℕ, ◌<◌, ◌≤◌}
use Rattle.plain_table.specs.FirstOfLinks.{closing_at}
use Rattle.plain_table.proofs.firsts.links_of.Given as goal

abbrev pub invariant-loop-closing : goal.invariant-loop-closing
invariant-loop-closing l = record {
  below : (k : ℕ) → k < l.closing-index → (closing_at l.closings k).link < l.links;
  small : l.links ≤ 4294967296;
}
