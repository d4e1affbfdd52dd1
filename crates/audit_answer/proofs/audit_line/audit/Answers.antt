use Rattle.std.proofs.Common.{◌∙◌, sym, subst}
use Rattle.std.proofs.lemmas.Result.{IfOk-weaker}
use Rattle.audit_law.specs.DocumentLaws.{IsRead}
use Rattle.audit_law.proofs.DocumentLaw.{document-run-legal, legal-document-run}
use Rattle.parted_input.specs.declared.parted.Parted.TheVariants.{Read}
use Rattle.audit_answer.specs.AuditReply.{IsAuditReply}
use Rattle.parted_input.specs.Parted.{AreRead, IsReplyBehind, accepted_parts}
use Rattle.audit_answer.proofs.Audits.{audit-says, reply-parts, tasks-are}
use Rattle.audit_answer.proofs.audit_line.audit.Goals as goal

pub audit_document-requires-clause-tasks : goal.audit_document-requires-clause-tasks
audit_document-requires-clause-tasks c =
    let read : AreRead (accepted_parts c.args.input.now) (Read c.in-Read.document c.in-Read.part) = subst (AreRead (accepted_parts c.args.input.now)) c.in-Read.is c.in_ok-document.ensures in
    tasks-are read.0 c.in-Read.document read.3

pub returns-in-Read : goal.returns-in-Read
returns-in-Read c =
    let document = c.in-Read.document in
    let text = c.in-Read.part.now in
    let read : AreRead (accepted_parts c.args.input.now) (Read document c.in-Read.part) = subst (AreRead (accepted_parts c.args.input.now)) c.in-Read.is c.in_ok-document.ensures in
    let is : IsRead read.2.0 read.0 document = record { accepts = read.2.1; parts = read.3; usable = read.4 } in
    IfOk-weaker c.audit_document.result _ _
    (λ answer judged. subst (λ parts. IsReplyBehind IsAuditReply parts answer) (sym read.1)
    (audit-says read.0 text answer (judged ∙ reply-parts read.0 document read.3 text) (legal-document-run read.2.0 read.0 document text is) (document-run-legal read.2.0 read.0 document text is)))
    c.audit_document.ensures
