-- The parts of an input of two parts, and what it gets.
use Rattle.std.specs.Prelude.{◌≡◌, ℕ, List, drop, Option, Some, None, Result, Ok, Err}
use Rattle.one_run.specs.Endings.{Reply}
use Rattle.plan_doc.specs.Accepted.{IsDocumentOf}
use Rattle.plan_doc.specs.Conditions.{IsUsable}
use Rattle.doc_parts.specs.Document.{Accepted, document}
use Rattle.doc_refusals.specs.Refusals.{Refusal}
use Rattle.two_part.specs.declared.Parts.{Parts}
use Rattle.two_part.specs.TwoPart.{document_in, no_parts_line, parts_of}
use Rattle.parted_input.specs.declared.parted.Parted as read
use Rattle.parted_input.specs.declared.parted.Parted.TheVariants.{Read, Refused}
use Rattle.solve_reply.specs.Refused.{refused_reply}

-- an accepted document, and the second part behind it
pub record AcceptedParts : Type 0 where
  pub accepted : Accepted
  pub part : List ℕ

-- an input without parts is refused before its document is read
abbrev pub no_parts_reply : Reply
no_parts_reply = record { status = 3; text = no_parts_line }

abbrev pub with_part : List ℕ → Result Accepted Refusal → Result AcceptedParts Reply
with_part part (Ok accepted) = Ok (record { accepted = accepted; part = part })
with_part part (Err refusal) = Err (refused_reply refusal)

abbrev pub parts_at : List ℕ → Option Parts → Result AcceptedParts Reply
parts_at input None = Err no_parts_reply
parts_at input (Some parts) =
    with_part (drop parts.end input) (document (document_in input parts))

-- the two parts of an input, or what is written for a refused one
abbrev pub accepted_parts : List ℕ → Result AcceptedParts Reply
accepted_parts input = parts_at input (parts_of input)

abbrev pub behind_reply : (Accepted → List ℕ → Reply) → Result AcceptedParts Reply → Reply
behind_reply accepted_reply (Ok parts) = accepted_reply parts.accepted parts.part
behind_reply accepted_reply (Err refused) = refused

-- what an input gets that is a document and a second part, by what an accepted document and the
-- part behind it get
abbrev pub parts_reply : (Accepted → List ℕ → Reply) → List ℕ → Reply
parts_reply accepted_reply input = behind_reply accepted_reply (accepted_parts input)

-- the same, where an accepted document and the part behind it may get this
abbrev pub IsReplyBehind : (Accepted → List ℕ → Reply → Type 0) → Result AcceptedParts Reply → Reply
    → Type 0
IsReplyBehind IsReply (Ok parts) given = IsReply parts.accepted parts.part given
IsReplyBehind IsReply (Err refused) given = given ≡ refused

-- the code has the same parts, or what is written for a refused input
abbrev pub AreRead : Result AcceptedParts Reply → read.Parted → Type 0
AreRead parts (Read held part) =
    (accepted : Accepted) × (parts ≡ Ok (record { accepted = accepted; part = part.now }))
    × ((bytes : List ℕ) × (document bytes ≡ Ok accepted)) × IsDocumentOf accepted held
    × IsUsable held
AreRead parts (Refused answer) = parts ≡ Err answer
