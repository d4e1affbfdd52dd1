use Rattle.std.proofs.Common.{ℕ, ◌<◌, ◌≤◌, length, slice_index, subst, sym}
use Rattle.policy_tree.specs.Trees.{Tree, value_in}
use Rattle.kept_tree.proofs.tree.KeptTree.limits.Goals as goal

pub known_limits-requires-clause-within : goal.known_limits-requires-clause-within
known_limits-requires-clause-within c =
    subst (λ (tree : Tree). (group : ℕ) → group < length tree.clusters → slice_index c.args.amounts.now group ≤ value_in tree group tree.top) (sym c.self.view_is) c.requires.within

pub all_limits-requires-clause-within : goal.all_limits-requires-clause-within
all_limits-requires-clause-within c =
    subst (λ (tree : Tree). (group : ℕ) → group < length tree.clusters → slice_index c.args.amounts.now group ≤ value_in tree group tree.top) (sym c.self.view_is) c.requires.within
