use Rattle.std.proofs.Common.{◌++◌, ◌∙◌, ℕ, List, ap}
use Rattle.policy_tree.specs.Trees.{value_in}
use Rattle.kept_tree.specs.Known.{limits_in}
use Rattle.kept_tree.proofs.limits.push_group.Goals as goal

pub returns-in-Some-clause-pushed : goal.returns-in-Some-clause-pushed
returns-in-Some-clause-pushed c =
    let tree = c.args.tree.now in
    c.in_ok-extend_from_slice.ensures.items
    ∙ ap (λ (below : List ℕ). c.args.limits.now.items ++ below) (c.in-Some.ensures (value_in tree c.args.group) (limits_in tree c.args.group) c.requires.known)

pub returns-clause-known : goal.returns-clause-known
returns-clause-known c =
    let tree = c.args.tree.now in
    c.set_limits.ensures (value_in tree c.args.group) (limits_in tree c.args.group) c.in_ok-below.ensures c.requires.known
