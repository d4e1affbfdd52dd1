use Rattle.policy_tree.proofs.siblings.SiblingsShareFunction.look.Goals as goal

pub look_at-requires : goal.look_at-requires
look_at-requires g c = c.args.self.now.is.bound c.args.share
