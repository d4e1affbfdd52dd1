use Rattle.std.proofs.Common.{length}
use Rattle.policy_tree.specs.Trees.{value_in}
use Rattle.tiers.proofs.OfTier.{tier-values}
use Rattle.tiers.proofs.values.TierValuesGroupValues.top.Goals as goal

pub returns-clause-values : goal.returns-clause-values
returns-clause-values c =
    tier-values (length c.args.self.now.tree.now.clusters) c.args.self.now.tree.now.top (value_in c.args.self.now.tree.now) c.args.self.now.tiers.now c.args.self.now.tier c.top.ensures.values
