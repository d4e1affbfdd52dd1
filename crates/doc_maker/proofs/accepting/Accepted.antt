-- Made documents are accepted, with the counts of their sizes.
use Rattle.std.proofs.Common.{arith, ◌∙◌}
use Rattle.std.specs.Prelude.{codes}
use Rattle.std.proofs.lemmas.List.{length-map}
use Rattle.doc_parts.specs.Document.{document}
use Rattle.doc_parts.proofs.NodeFacts.{length-task_numbers}
use Rattle.doc_maker.specs.Made.{made, task_name, numbered}
use Rattle.doc_maker.specs.Accepting.{walked_tasks, numbered_group, numbered_report, MadeDocumentsAreAccepted, MadeDocumentsHaveTheirCounts}
use Rattle.doc_maker.proofs.accepting.Limits.{length-numbers}
use Rattle.doc_maker.proofs.accepting.Parts.{length-links}
use Rattle.doc_maker.proofs.accepting.Plans.{length-tasks}
use Rattle.doc_maker.proofs.accepting.Texts.{made_document_back}
use Rattle.doc_maker.proofs.accepting.Values.{made_value_accepted}
use Rattle.doc_maker.proofs.accepting.Walks.{length-walked}

pub made_documents_are_accepted : MadeDocumentsAreAccepted
unfolding document
made_documents_are_accepted size right = rw (made_document_back size right) (made_value_accepted size right)

pub made_documents_have_their_counts : MadeDocumentsHaveTheirCounts
made_documents_have_their_counts size right = record {
  groups = length-numbers (numbered_group size) size.groups;
  group_names = length-numbers (numbered (codes "g")) size.groups;
  links = length-links size;
  tasks = length-task_numbers 1_000_000 (made size).groups ∙ length-tasks size (omega arith);
  task_names = length-map (walked_tasks size) task_name ∙ length-walked size (omega arith);
  reports = length-numbers (numbered_report size) size.tasks;
}
