use Rattle.tiers.specs.Fillings.{values_of_tier}
use Rattle.tiers.proofs.fillings.fill_tier.Given as goal

abbrev pub ghosts-fill_kept : goal.ghosts-fill_kept
ghosts-fill_kept a = record { value = (values_of_tier a.values.now.tree.now a.values.now.tiers.now a.values.now.tier).value }
