use Rattle.policy_tree.specs.Trees.{asking}
use Rattle.kept_tree.proofs.Dropped.{alike-asking, alike-itself, known-forgotten}
use Rattle.kept_tree.proofs.owner.forget_owner.Goals as goal

pub returns-clause-known : goal.returns-clause-known
returns-clause-known c =
    let tree = c.args.tree.now in
    let group = c.owner_of-group.result in
    known-forgotten group tree tree c.args.known.now c.forget.new.self (alike-itself group tree) c.forget.ensures c.requires.known

pub returns-clause-asking : goal.returns-clause-asking
returns-clause-asking c =
    let tree = c.args.tree.now in
    let group = c.owner_of-group.result in
    λ demand. known-forgotten group tree (asking tree c.args.task demand) c.args.known.now c.forget.new.self
    (alike-asking tree c.args.task demand group c.owner_of-group.ensures.owner) c.forget.ensures c.requires.known
