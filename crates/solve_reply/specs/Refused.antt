-- What an input gets that is one document, and what a refused one gets.
use Rattle.std.specs.Prelude.{ℕ, List, Result, Ok, Err}
use Rattle.one_run.specs.Endings.{Reply}
use Rattle.doc_parts.specs.Document.{Accepted, document}
use Rattle.doc_refusals.specs.Refusals.{Refusal}
use Rattle.refusal_text.specs.RefusalLines.{refusal_line}

-- a refused document gets the row of its refusal
abbrev pub refused_reply : Refusal → Reply
refused_reply refusal = record { status = 3; text = refusal_line refusal }

-- what is read as a document gets, by what an accepted one gets
abbrev pub read_reply : (Accepted → Reply) → Result Accepted Refusal → Reply
read_reply accepted_reply (Ok accepted) = accepted_reply accepted
read_reply accepted_reply (Err refusal) = refused_reply refusal

-- what an input gets that is one document
abbrev pub document_reply : (Accepted → Reply) → List ℕ → Reply
document_reply accepted_reply input = read_reply accepted_reply (document input)
