use Rattle.std.proofs.Common.{ℕ, ◌<◌, ◌≤◌, length, slice_index, subst, sym}
use Rattle.policy_tree.specs.Trees.{value_in}
use Rattle.plain_table.specs.Reported.{Reported}
use Rattle.allocator.proofs.reported.Reported.limits.Goals as goal

pub limits-requires-clause-within : goal.limits-requires-clause-within
limits-requires-clause-within c =
    subst (λ (reported : Reported). (group : ℕ) → group < length reported.tree.clusters → slice_index c.args.amounts.now group ≤ value_in reported.tree group reported.tree.top) (sym c.self.view_is) c.requires.within
