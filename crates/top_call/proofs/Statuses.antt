-- Which exit statuses a call may end with.
use Rattle.std.proofs.Common.{◌≡◌, ◌≢◌, ◌⊎◌, ◌∙◌, inl, inr, ℕ, ◌≤◌, true, List, drop, Option, Some, None, Result, Ok, Err, refl, sym, subst, arith}
use Rattle.std.proofs.lemmas.Bool.{false≢true}
use Rattle.std.specs.Io.KnownBytes.{Appends}
use Rattle.bwe_specs.specs.declared.network.Verdict.{Verdict}
use Rattle.bwe_specs.specs.declared.network.Verdict.TheVariants as judged
use Rattle.bwe_specs.specs.declared.report.Report.{Report}
use Rattle.bwe_specs.specs.Allocation.{Plan}
use Rattle.command_line.specs.declared.CommandLine.{CommandLine}
use Rattle.command_line.specs.declared.CommandLine.TheVariants.{Solve, Check, Run, Make, Bulk, Audit, Tiers, Enforce, Estimate, Levels}
use Rattle.enforce_run.specs.declared.event.EventLine.{EventLine}
use Rattle.one_run.specs.Endings.{IsDue, IsInput, Reply, Served, answered, done, far_too_long, no_line, out_of_memory, read_fault, too_long, write_fault}
use Rattle.doc_parts.specs.Document.{Accepted, document}
use Rattle.doc_parts.specs.Plans.{plan_of}
use Rattle.doc_refusals.specs.Refusals.{Refusal}
use Rattle.run_audit.specs.declared.verdict.AuditVerdict.{AuditVerdict}
use Rattle.run_audit.specs.declared.verdict.AuditVerdict.TheVariants as audited
use Rattle.doc_names.specs.NameTexts.{NameTexts}
use Rattle.two_part.specs.declared.Parts.{Parts}
use Rattle.two_part.specs.TwoPart.{document_in, parts_of}
use Rattle.audit_law.specs.DocumentRun.{script_verdict}
use Rattle.audit_answer.specs.AuditReply.{IsAuditReply, audit_reply, audit_status}
use Rattle.line_answers.specs.EnforceReply.{enforce_accepted, enforced_by}
use Rattle.line_answers.specs.EstimateReply.{estimate_accepted, table_behind}
use Rattle.parted_input.specs.Parted.{IsReplyBehind, behind_reply, no_parts_reply, parts_at, with_part}
use Rattle.line_answers.specs.Replies.{check_accepted, levels_accepted, verdict_status}
use Rattle.solve_reply.specs.Refused.{read_reply, refused_reply}
use Rattle.solve_reply.specs.SolveReply.{solve_accepted}
use Rattle.top_call.specs.RunLine.{IsRunReply}
use Rattle.top_call.specs.Statuses.{AcceptedIsAnswered, AnAnswerIsWhole, IsAnswered, IsOfAnswer, IsSilent, IsTakenIn, IsWithoutFault, NothingIsWritten}
use Rattle.line_answers.specs.TiersReply.{tiers_accepted, unless_refused}
use Rattle.top_call.specs.TopCall.{IsServed, is_too_long, reads, replies}

-- ---- the exit status of what a command may get

is-done : IsOfAnswer 0
is-done = inl refl

is-refused : IsOfAnswer 3
is-refused = inr (inr refl)

verdict-of : (verdict : Verdict) → IsOfAnswer (verdict_status verdict)
verdict-of judged.Right = is-done
verdict-of (judged.Wrong at cause) = inr (inl refl)

audit-of : (verdict : AuditVerdict) → IsOfAnswer (audit_status verdict)
audit-of audited.Legal = is-done
audit-of (audited.Wrong line cause) = inr (inl refl)

read-of : (accepted_reply : Accepted → Reply) → ((accepted : Accepted) → IsOfAnswer (accepted_reply accepted).status) → (read : Result Accepted Refusal) → IsOfAnswer (read_reply accepted_reply read).status
read-of accepted_reply all (Ok accepted) = all accepted
read-of accepted_reply all (Err refusal) = is-refused

module _ (accepted_reply : Accepted → List ℕ → Reply) (all : (accepted : Accepted) (part : List ℕ) → IsOfAnswer (accepted_reply accepted part).status) where
  with-of : (part : List ℕ) (read : Result Accepted Refusal) → IsOfAnswer (behind_reply accepted_reply (with_part part read)).status
  with-of part (Ok accepted) = all accepted part
  with-of part (Err refusal) = is-refused

  parts-of : (input : List ℕ) (parts : Option Parts) → IsOfAnswer (behind_reply accepted_reply (parts_at input parts)).status
  parts-of input None = is-refused
  parts-of input (Some parts) = with-of _ _

behind-of : (names : NameTexts) (plan : Plan) (script : List Report) (read : Result (List Report) ℕ) → IsOfAnswer (table_behind names plan script read).status
behind-of names plan script (Ok reports) = is-done
behind-of names plan script (Err line) = is-refused

tiers-of : (fault : Option ℕ) (given : Reply) → IsOfAnswer given.status → IsOfAnswer (unless_refused fault given).status
tiers-of None given is = is
tiers-of (Some at) given is = is-refused

enforced-of : (names : NameTexts) (plan : Plan) (script : List Report) (owners : List ℕ) (read : Result (List EventLine) ℕ) → IsOfAnswer (enforced_by names plan script owners read).status
enforced-of names plan script owners (Ok events) = is-done
enforced-of names plan script owners (Err line) = is-refused

run-of : (readers reads : ℕ) (read : Result Accepted Refusal) (given : Reply) → IsRunReply readers reads read given → IsOfAnswer given.status
run-of readers reads (Ok accepted) given is = subst (λ (given : Reply). IsOfAnswer given.status) (sym is.3) is-done
run-of readers reads (Err refusal) given is = subst (λ (given : Reply). IsOfAnswer given.status) (sym is) is-refused

is-same : (given reply : Reply) → given ≡ reply → IsOfAnswer reply.status → IsOfAnswer given.status
is-same given reply is of = subst (λ (given : Reply). IsOfAnswer given.status) (sym is) of

audited-with : (part : List ℕ) (read : Result Accepted Refusal) (given : Reply) → IsReplyBehind IsAuditReply (with_part part read) given → IsOfAnswer given.status
audited-with part (Ok accepted) given is =
    is-same given (audit_reply accepted.names (plan_of accepted) accepted.script part) is.first_fault (audit-of (script_verdict accepted.names (plan_of accepted) accepted.script part))
audited-with part (Err refusal) given is = is-same given (refused_reply refusal) is is-refused

audited-parts : (input : List ℕ) (parts : Option Parts) (given : Reply) → IsReplyBehind IsAuditReply (parts_at input parts) given → IsOfAnswer given.status
audited-parts input None given is = is-same given no_parts_reply is is-refused
audited-parts input (Some parts) given is = audited-with (drop parts.end input) (document (document_in input parts)) given is

pub replied : (line : CommandLine) (input : List ℕ) (given : Reply) → replies line input given → IsOfAnswer given.status
replied Solve input given is = is-same given _ is (read-of solve_accepted (λ accepted. is-done) (document input))
replied Check input given is = is-same given _ is (read-of check_accepted (λ accepted. verdict-of _) (document input))
replied (Levels share) input given is = is-same given _ is (read-of (levels_accepted share) (λ accepted. is-done) (document input))
replied (Run readers reads) input given is = run-of readers reads (document input) given is
replied (Make seed groups tasks) input given is = is-same given _ is is-done
replied (Bulk seed groups tasks) input given is = is-same given _ is is-done
replied (Estimate window headroom) input given is = is-same given _ is (parts-of (estimate_accepted window headroom) (λ accepted part. behind-of _ _ _ _) input (parts_of input))
replied Audit input given is = audited-parts input (parts_of input) given is
replied Tiers input given is = is-same given _ is (parts-of tiers_accepted (λ accepted part. tiers-of _ _ is-done) input (parts_of input))
replied Enforce input given is = is-same given _ is (parts-of enforce_accepted (λ accepted part. enforced-of accepted.names (plan_of accepted) accepted.script accepted.task_owners _) input (parts_of input))

-- ---- the three laws

other : (status : ℕ) → 4 ≤ status → IsOfAnswer status → ⊥
other status past (inl e) = omega (arith, past, e)
other status past (inr (inl e)) = omega (arith, past, e)
other status past (inr (inr e)) = omega (arith, past, e)

two : IsOfAnswer 2 → ⊥
two (inl e) = omega (arith, e)
two (inr (inl e)) = omega (arith, e)
two (inr (inr e)) = omega (arith, e)

module _ {S K : Type 0} (line : Option CommandLine) (served : Served S K) where
  -- a text that was due with the exit status of an answer is an answer
  due : {status : ℕ} {text : List ℕ} → IsDue (record { reads = reads; is_too_long = is_too_long; replies = replies }) line served status text → IsOfAnswer status
      → Appends (served.written served.sink) (served.written served.sink_after) text → IsAnswered line served status
  due (no_line none kept) of written = absurd (two of)
  due (answered same input short given) of written = record {
    is = _;
    input = _;
    reply = _;
    line_is = same;
    taken_in = input;
    short = short;
    replied = given;
    status_is = refl;
    written = written;
  }
  due (too_long same taken long) of written = absurd (other 8 (omega arith) of)
  due (far_too_long same read taken) of written = absurd (other 8 (omega arith) of)

  whole : {status : ℕ} → IsServed line served status → IsOfAnswer status → IsAnswered line served status
  whole (done is written) of = due is of written
  whole (read_fault same read risen keeps) of = absurd (other 4 (omega arith) of)
  whole (write_fault is risen prefix) of = absurd (other 5 (omega arith) of)
  whole (out_of_memory unread keeps) of = absurd (other 6 (omega arith) of)

  back : (status : ℕ) → IsAnswered line served status → IsServed line served status
  back status is = subst (λ status. IsServed line served status) is.status_is (done (answered is.line_is is.taken_in is.short is.replied) is.written)

  -- what is due has no exit status of a call that wrote nothing
  spoken : {status : ℕ} {text : List ℕ} → IsDue (record { reads = reads; is_too_long = is_too_long; replies = replies }) line served status text → (status ≡ 4) ⊎ (status ≡ 6) → ⊥
  spoken (no_line none kept) (inl e) = omega (arith, e)
  spoken (no_line none kept) (inr e) = omega (arith, e)
  spoken (answered {is = is} {input = input} {reply = reply} same taken short given) (inl e) = other reply.status (omega (arith, e)) (replied is input reply given)
  spoken (answered {is = is} {input = input} {reply = reply} same taken short given) (inr e) = other reply.status (omega (arith, e)) (replied is input reply given)
  spoken (too_long same taken long) (inl e) = omega (arith, e)
  spoken (too_long same taken long) (inr e) = omega (arith, e)
  spoken (far_too_long same read taken) (inl e) = omega (arith, e)
  spoken (far_too_long same read taken) (inr e) = omega (arith, e)

  silent : {status : ℕ} → IsServed line served status → (status ≡ 4) ⊎ (status ≡ 6) → IsSilent served
  silent (done is written) of = absurd (spoken is of)
  silent (read_fault same read risen keeps) of = keeps
  silent (write_fault is risen prefix) (inl e) = absurd (omega (arith, e))
  silent (write_fault is risen prefix) (inr e) = absurd (omega (arith, e))
  silent (out_of_memory unread keeps) of = keeps

module _ {S K : Type 0} (is : CommandLine) (served : Served S K) where
  not-none : Some is ≡ None → ⊥
  not-none e = cc

  abbrev IsGood : ℕ → Type 0
  IsGood status = (status ≡ 0) ⊎ ((status ≡ 1) ⊎ (status ≡ 6))

  good : (status : ℕ) → IsOfAnswer status → status ≢ 3 → IsGood status
  good status (inl e) not = inl e
  good status (inr (inl e)) not = inr (inl e)
  good status (inr (inr e)) not = absurd (not e)

  one : (line other : CommandLine) → Some line ≡ Some other → other ≡ line
  one line other e = cc

  due-good : {status : ℕ} {text : List ℕ} → IsDue (record { reads = reads; is_too_long = is_too_long; replies = replies }) (Some is) served status text → IsWithoutFault served → IsTakenIn is served → IsGood status
  due-good (no_line none kept) without taken_in = absurd (not-none none)
  due-good (answered {is = line} {input = input} {reply = reply} same taken short given) without taken_in =
      good reply.status (replied line input reply given)
      ((taken_in input (subst (λ line. IsInput served.left served.source served.source_after (reads line) input) (one is line same) taken)).1 reply (subst (λ line. replies line input reply) (one is line same) given))
  due-good (too_long {is = line} {input = input} same taken long) without taken_in =
      let short = (taken_in input (subst (λ line. IsInput served.left served.source served.source_after (reads line) input) (one is line same) taken)).0 in
      absurd (false≢true (sym short ∙ subst (λ line. is_too_long line input ≡ true) (one is line same) long))
  due-good (far_too_long same read taken) without taken_in = absurd (without.length taken)

  accepted : {status : ℕ} → IsServed (Some is) served status → IsWithoutFault served → IsTakenIn is served → IsGood status
  accepted (done said written) without taken_in = due-good said without taken_in
  accepted (read_fault same read risen keeps) without taken_in = absurd (without.source risen)
  accepted (write_fault said risen prefix) without taken_in = absurd (without.sink risen)
  accepted (out_of_memory unread keeps) without taken_in = inr (inr refl)

module _ (S K : Type 0) where
  pub an-answer-is-whole : AnAnswerIsWhole S K
  an-answer-is-whole line served status of = (λ is. whole line served is of, back line served status)

  pub nothing-is-written : NothingIsWritten S K
  nothing-is-written line served status = silent line served

  pub accepted-is-answered : AcceptedIsAnswered S K
  accepted-is-answered is served status = accepted is served
