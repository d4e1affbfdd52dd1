use Rattle.std.proofs.Common.{◌≡◌, ◌++◌, flat_map, string_bytes}
use Rattle.bwe_specs.specs.Reports.{numbers}
use Rattle.enforce_run.specs.EnforceText.{region_lines}
use Rattle.enforce_run.proofs.text.push_regions.Given as goal

abbrev pub invariant-loop-region : goal.invariant-loop-region
invariant-loop-region g l = string_bytes l.text ≡ string_bytes l.fn.text ++ flat_map (region_lines l.names l.world) (numbers l.region)
