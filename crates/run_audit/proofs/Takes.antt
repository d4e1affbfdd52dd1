-- The lines of the history, one by one.
use Rattle.std.proofs.Common.{◌≡◌, ◌<◌, ◌≤◌, ℕ, Bool, false, cond, List, [], ◌∷◌, length, Result, Ok, ap, ◌∙◌, nat_lt}
use Rattle.std.proofs.lemmas.Bool.{lt-ltb, le-ltb}
use Rattle.bwe_specs.specs.declared.report.Report.{Report}
use Rattle.doc_names.specs.NameTexts.{NameTexts}
use Rattle.run_audit.specs.History.{IsStop, Printed, Reported, continue_with, fault, line_after, take_line, take_lines, total_of}
use Rattle.run_audit.specs.declared.verdict.AuditCause.TheVariants.{Form}
use Rattle.run_audit.specs.declared.verdict.Fault.{Fault}
use Rattle.run_audit.specs.declared.verdict.Stop.{Stop}
use Rattle.run_audit.specs.declared.verdict.Stop.TheVariants.{At, OutOfMemory}

module _ (names : NameTexts) (scripts : List (List Report)) (printed : Printed) (lines : List (List ℕ)) where
  -- no line where one is due
  pub lines_end : length printed.reports < total_of scripts → lines ≡ [] → take_lines names scripts printed lines ≡ fault (line_after printed) Form
  unfolding take_lines
  lines_end short none =
      ap (take_lines names scripts printed) none
      ∙ ap (λ (b : Bool). cond {A = Result Reported Fault} b (fault (line_after printed) Form) (Ok (record { reports = printed.reports; lines = [] }))) (lt-ltb _ _ short)

  -- a line where one is due
  pub lines_next : (line : List ℕ) (more : List (List ℕ)) → length printed.reports < total_of scripts → lines ≡ line ∷ more
      → take_lines names scripts printed lines ≡ continue_with (λ next. take_lines names scripts next more) (take_line names scripts printed line)
  unfolding take_lines
  lines_next line more short is =
      ap (take_lines names scripts printed) is
      ∙ ap (λ (b : Bool). cond {A = Result Reported Fault} b (continue_with (λ next. take_lines names scripts next more) (take_line names scripts printed line)) (Ok (record { reports = printed.reports; lines = line ∷ more }))) (lt-ltb _ _ short)

  pub lines_go_on : (line : List ℕ) (more : List (List ℕ)) (next : Printed) → length printed.reports < total_of scripts → lines ≡ line ∷ more
      → take_line names scripts printed line ≡ Ok next → take_lines names scripts printed lines ≡ take_lines names scripts next more
  lines_go_on line more next short is taken =
      lines_next line more short is ∙ ap (continue_with (λ next. take_lines names scripts next more)) taken

  pub lines_stop : (line : List ℕ) (more : List (List ℕ)) (stop : Stop) → length printed.reports < total_of scripts → lines ≡ line ∷ more
      → IsStop (take_line names scripts printed line) stop → IsStop (take_lines names scripts printed lines) stop
  lines_stop line more (At fault) short is stopped =
      lines_next line more short is ∙ ap (continue_with (λ next. take_lines names scripts next more)) stopped
  lines_stop line more OutOfMemory short is stopped = tt

all_taken : (names : NameTexts) (scripts : List (List Report)) (printed : Printed) (lines : List (List ℕ)) → nat_lt (length printed.reports) (total_of scripts) ≡ false
    → take_lines names scripts printed lines ≡ Ok (record { reports = printed.reports; lines = lines })
unfolding take_lines
all_taken names scripts printed [] full =
    ap (λ (b : Bool). cond {A = Result Reported Fault} b (fault (line_after printed) Form) (Ok (record { reports = printed.reports; lines = [] }))) full
all_taken names scripts printed (line ∷ lines) full =
    ap (λ (b : Bool). cond {A = Result Reported Fault} b (continue_with (λ next. take_lines names scripts next lines) (take_line names scripts printed line)) (Ok (record { reports = printed.reports; lines = line ∷ lines }))) full

-- as many reports as the scripts have
pub lines_full : (names : NameTexts) (scripts : List (List Report)) (printed : Printed) (lines : List (List ℕ)) → total_of scripts ≤ length printed.reports
    → take_lines names scripts printed lines ≡ Ok (record { reports = printed.reports; lines = lines })
lines_full names scripts printed lines full = all_taken names scripts printed lines (le-ltb _ _ full)
