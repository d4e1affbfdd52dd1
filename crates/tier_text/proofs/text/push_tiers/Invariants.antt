use Rattle.std.proofs.Common.{◌≡◌, ◌++◌, flat_map, string_bytes}
use Rattle.bwe_specs.specs.Reports.{numbers}
use Rattle.doc_names.specs.NameTexts.{texts_of}
use Rattle.bwe_specs.specs.Lists.{lists_of}
use Rattle.tier_text.specs.TierText.{tier_lines}
use Rattle.tier_text.proofs.text.push_tiers.Given as goal

abbrev pub invariant-loop-tier : goal.invariant-loop-tier
invariant-loop-tier l = string_bytes l.text ≡ string_bytes l.fn.text ++ flat_map (tier_lines (texts_of l.names) (lists_of l.tiers)) (numbers l.tier)
