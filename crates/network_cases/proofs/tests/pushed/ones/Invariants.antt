use Rattle.std.proofs.Common.{◌≡◌, length}
use Rattle.policy_tree.specs.Asked.{AreWeights}
use Rattle.network_cases.proofs.tests.pushed.ones.Given as goal

abbrev pub invariant-loop-place : goal.invariant-loop-place
invariant-loop-place l = record { size : length l.weights.items ≡ l._place; each : AreWeights l.weights.items }
