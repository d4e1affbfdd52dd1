use Rattle.std.proofs.Common.{◌≡◌, ◌++◌, drop, string_bytes}
use Rattle.std.specs.List.{flat_map}
use Rattle.refusal_text.specs.RefusalLines.{step_text}
use Rattle.refusal_text.proofs.text.push_steps.Given as goal

abbrev pub invariant-loop-step : goal.invariant-loop-step
invariant-loop-step l = string_bytes l.text ++ flat_map step_text (drop l.step-index l.steps) ≡ string_bytes l.fn.text ++ flat_map step_text l.steps
