-- The commands of the program, and what each may get for its input.
use Rattle.std.specs.Prelude.{◌≡◌, ℕ, Bool, true, false, List, Option, Some, None}
use Rattle.command_line.specs.declared.CommandLine.{CommandLine}
use Rattle.command_line.specs.declared.CommandLine.TheVariants.{Solve, Check, Run, Make, Bulk, Audit, Tiers, Enforce, Estimate, Levels}
use Rattle.one_run.specs.Endings.{Ending, Reply, Served}
use Rattle.doc_parts.specs.Document.{document}
use Rattle.line_answers.specs.Replies.{check_accepted, levels_accepted}
use Rattle.solve_reply.specs.SolveReply.{solve_accepted}
use Rattle.solve_reply.specs.Refused.{document_reply}
use Rattle.top_call.specs.RunLine.{IsRunReply}
use Rattle.line_answers.specs.MadeLines.{bulk_reply, make_reply}
use Rattle.one_run.specs.Lengths.{document_is_too_long}
use Rattle.parted_input.specs.Lengths.{parts_are_too_long}
use Rattle.parted_input.specs.Parted.{IsReplyBehind, accepted_parts, parts_reply}
use Rattle.audit_answer.specs.AuditReply.{IsAuditReply}
use Rattle.line_answers.specs.EnforceReply.{enforce_accepted}
use Rattle.line_answers.specs.EstimateReply.{estimate_accepted}
use Rattle.line_answers.specs.TiersReply.{tiers_accepted}

-- What a command may get for its input: of all commands but `run` it is determined. Of `audit` it
-- is said besides that exit status 0 comes exactly where the text is that of a closed legal run of
-- the document.
--
-- This has what the headline (docs/DEFINITIONS.md) says of the program. Of `solve`: "each
-- allocation is the one that raising every group's fair share by one at a time gives". Of `run`:
-- its tables are those "after a named prefix of one history of reports, in which each reporter's
-- reports stand once in its order", and "a reader's prefixes never fall".
abbrev pub replies : CommandLine → List ℕ → Reply → Type 0
replies Solve input given = given ≡ document_reply solve_accepted input
replies Check input given = given ≡ document_reply check_accepted input
replies (Levels share) input given = given ≡ document_reply (levels_accepted share) input
replies (Run readers reads) input given = IsRunReply readers reads (document input) given
replies (Make seed groups tasks) input given =
    given ≡ make_reply (record { seed = seed; groups = groups; tasks = tasks })
replies (Bulk seed groups tasks) input given =
    given ≡ bulk_reply (record { seed = seed; groups = groups; tasks = tasks })
replies (Estimate window headroom) input given =
    given ≡ parts_reply (estimate_accepted window headroom) input
replies Audit input given = IsReplyBehind IsAuditReply (accepted_parts input) given
replies Tiers input given = given ≡ parts_reply tiers_accepted input
replies Enforce input given = given ≡ parts_reply enforce_accepted input

-- `make` and `bulk` read nothing
abbrev pub reads : CommandLine → Bool
reads (Make seed groups tasks) = false
reads (Bulk seed groups tasks) = false
reads _ = true

-- an input that is too long for the command, by what stands in it as the document
abbrev pub is_too_long : CommandLine → List ℕ → Bool
is_too_long Solve input = document_is_too_long input
is_too_long Check input = document_is_too_long input
is_too_long (Levels share) input = document_is_too_long input
is_too_long (Run readers reads) input = document_is_too_long input
is_too_long (Make seed groups tasks) input = false
is_too_long (Bulk seed groups tasks) input = false
is_too_long (Estimate window headroom) input = parts_are_too_long input
is_too_long Audit input = parts_are_too_long input
is_too_long Tiers input = parts_are_too_long input
is_too_long Enforce input = parts_are_too_long input

-- For the command that the arguments are, source and sink went from here to there as an ending with
-- this exit status allows.
abbrev pub IsServed : {S K : Type 0} → Option CommandLine → Served S K → ℕ → Type 0
IsServed line served status =
    Ending (record { reads = reads; is_too_long = is_too_long; replies = replies }) line served
    status

-- `run` alone needs threads
abbrev pub needs_threads : CommandLine → Bool
needs_threads (Run readers reads) = true
needs_threads _ = false

-- the command, where it needs no threads
abbrev pub of_one_thread : Option CommandLine → Option CommandLine
of_one_thread None = None
of_one_thread (Some (Run readers reads)) = None
of_one_thread (Some line) = Some line
