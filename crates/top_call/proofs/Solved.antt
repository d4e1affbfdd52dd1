-- A call that serves `solve` alone ends as a call for that command does.
use Rattle.std.proofs.Common.{◌≡◌, ℕ, List, true, false, refl, subst, Option, Some, None}
use Rattle.std.specs.Prelude.{⊤}
use Rattle.command_line.specs.declared.CommandLine.{CommandLine}
use Rattle.command_line.specs.declared.CommandLine.TheVariants.{Solve}
use Rattle.one_run.specs.Endings.{IsDue, IsInput, Lines, Served, answered, done, far_too_long, no_line, out_of_memory, read_fault, too_long, write_fault}
use Rattle.one_run.specs.Lengths.{document_is_too_long}
use Rattle.solve_reply.specs.Refused.{document_reply}
use Rattle.solve_reply.specs.SolveCall.{IsSolved}
use Rattle.solve_reply.specs.SolveReply.{solve_accepted}
use Rattle.top_call.specs.Laws.{SolvedIsServed}
use Rattle.top_call.specs.TopCall.{IsServed, is_too_long, reads, replies}

abbrev alone : Lines ⊤
alone = record { reads = λ (_ : ⊤). true; is_too_long = λ _ input. document_is_too_long input; replies = λ _ input given. given ≡ document_reply solve_accepted input }

abbrev every : Lines CommandLine
every = record { reads = reads; is_too_long = is_too_long; replies = replies }

some_line : {Line : Type 0} {line : Line} → Some line ≡ None → ⊥
some_line e = cc

the_line : (line : CommandLine) → Some Solve ≡ Some line → line ≡ Solve
the_line line e = cc

module _ {S K : Type 0} (served : Served S K) where
  due_forth : {status : ℕ} {text : List ℕ} → IsDue alone (Some tt) served status text → IsDue every (Some Solve) served status text
  due_forth (no_line none kept) = absurd (some_line none)
  due_forth (answered same taken short given) = answered refl taken short given
  due_forth (too_long same taken long) = too_long refl taken long
  due_forth (far_too_long same read taken) = far_too_long refl refl taken

  forth : {status : ℕ} → IsSolved served status → IsServed (Some Solve) served status
  forth (done due written) = done (due_forth due) written
  forth (read_fault same read risen keeps) = read_fault refl refl risen keeps
  forth (write_fault due risen prefix) = write_fault (due_forth due) risen prefix
  forth (out_of_memory unread keeps) = out_of_memory unread keeps

  due_back : {status : ℕ} {text : List ℕ} → IsDue every (Some Solve) served status text → IsDue alone (Some tt) served status text
  due_back (no_line none kept) = absurd (some_line none)
  due_back (answered {is = line} {input = input} {reply = reply} same taken short given) =
      answered refl (subst (λ line. IsInput served.left served.source served.source_after (reads line) input) (the_line line same) taken)
      (subst (λ line. is_too_long line input ≡ false) (the_line line same) short) (subst (λ line. replies line input reply) (the_line line same) given)
  due_back (too_long {is = line} {input = input} same taken long) =
      too_long refl (subst (λ line. IsInput served.left served.source served.source_after (reads line) input) (the_line line same) taken)
      (subst (λ line. is_too_long line input ≡ true) (the_line line same) long)
  due_back (far_too_long same read taken) = far_too_long refl refl taken

  back : {status : ℕ} → IsServed (Some Solve) served status → IsSolved served status
  back (done due written) = done (due_back due) written
  back (read_fault same read risen keeps) = read_fault refl refl risen keeps
  back (write_fault due risen prefix) = write_fault (due_back due) risen prefix
  back (out_of_memory unread keeps) = out_of_memory unread keeps

pub solved-is-served : {S K : Type 0} → SolvedIsServed S K
solved-is-served served status = (forth served, back served)

-- the same where the line is known by an equation alone
pub solved-serves : {S K : Type 0} (line : Option CommandLine) (served : Served S K) (status : ℕ) → Some Solve ≡ line → IsSolved served status → IsServed line served status
solved-serves line served status is solved = subst (λ (line : Option CommandLine). IsServed line served status) is (forth served solved)
