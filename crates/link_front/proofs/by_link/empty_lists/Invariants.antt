use Rattle.std.proofs.Common.{ℕ, ◌≡◌, length}
use Rattle.link_front.specs.ByLink.{nothing, listed_on}
use Rattle.link_front.proofs.by_link.empty_lists.Given as goal

abbrev pub invariant-loop-count : goal.invariant-loop-count
invariant-loop-count l = record { count : length l.lists.items ≡ l.count-index; empty : (link : ℕ) → listed_on l.lists.items link ≡ nothing }
