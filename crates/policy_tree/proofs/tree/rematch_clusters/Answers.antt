use Rattle.std.proofs.Common.{◌<◌, ◌∙◌, length, sym, arith}
use Rattle.std.proofs.lemmas.List.{same_lists}
use Rattle.policy_tree.proofs.tree.rematch_clusters.Goals as goal

pub returns : goal.returns
returns g c =
    same_lists c.par_for_each_mut.new.s c.args.clusters.now (omega (arith, c.par_for_each_mut.auto.s)) (λ k d lt.
    let within : k < length c.args.clusters.now = omega (arith, lt, c.par_for_each_mut.auto.s) in
    let change = (c.par_for_each_mut.ensures k d within).1 in
    sym change.left ∙ change.call ∙ change.argument_is)
