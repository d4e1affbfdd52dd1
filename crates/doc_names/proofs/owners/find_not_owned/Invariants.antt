use Rattle.std.proofs.Common.{◌≡◌, drop}
use Rattle.doc_names.specs.Owners.{not_owned}
use Rattle.doc_names.proofs.owners.find_not_owned.Given as goal

abbrev pub invariant-loop-place : goal.invariant-loop-place
invariant-loop-place l = not_owned l.task_owners l.link_owners l.place (drop l.place l.script) ≡ not_owned l.task_owners l.link_owners 0 l.script
