use Rattle.policy_tree.proofs.siblings.SiblingsShareFunction.value.Goals as goal

pub sum_at-requires : goal.sum_at-requires
sum_at-requires g c = c.args.self.now.is.bound c.args.share
