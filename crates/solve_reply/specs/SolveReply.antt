-- The command `solve`, and what its input gets.
use Rattle.std.specs.Prelude.{List}
use Rattle.bwe_specs.specs.declared.report.Report.{Report}
use Rattle.bwe_specs.specs.Allocation.{Plan, allocation}
use Rattle.one_run.specs.Endings.{Reply}
use Rattle.doc_names.specs.NameTexts.{NameTexts}
use Rattle.table_text.specs.TableText.{text_of}
use Rattle.doc_parts.specs.Document.{Accepted}
use Rattle.doc_parts.specs.Plans.{plan_of}

-- the table of the allocation of these reports
abbrev pub table_reply : NameTexts → Plan → List Report → Reply
table_reply names plan script = record { status = 0; text = text_of names (allocation plan script) }

-- `solve` of an accepted document: the table of its script
abbrev pub solve_accepted : Accepted → Reply
solve_accepted accepted = table_reply accepted.names (plan_of accepted) accepted.script
