use Rattle.std.proofs.Common.{◌≡◌, ◌++◌, drop, flat_map, string_bytes}
use Rattle.enforce_run.specs.EnforceText.{answer_line}
use Rattle.enforce_run.proofs.text.push_answers.Given as goal

abbrev pub invariant-loop-answer : goal.invariant-loop-answer
invariant-loop-answer l = string_bytes l.text ++ flat_map answer_line (drop l.answer-index l.answers) ≡ string_bytes l.fn.text ++ flat_map answer_line l.answers
