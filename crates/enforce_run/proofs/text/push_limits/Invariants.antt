use Rattle.std.proofs.Common.{◌≡◌, ◌++◌, flat_map, string_bytes}
use Rattle.bwe_specs.specs.Reports.{numbers}
use Rattle.enforce_run.specs.EnforceText.{limit_line}
use Rattle.enforce_run.proofs.text.push_limits.Given as goal

abbrev pub invariant-loop-place : goal.invariant-loop-place
invariant-loop-place g l = string_bytes l.text ≡ string_bytes l.fn.text ++ flat_map (limit_line l.names l.world l.region) (numbers l.place)
