-- What the lines so far have made of a document.
use Rattle.std.specs.Prelude.{◌++◌, List, [], ◌∷◌, fold}
use Rattle.bwe_specs.specs.declared.report.Report.{Report}
use Rattle.live_lines.specs.declared.line.LineMeaning.{LineMeaning}
use Rattle.live_lines.specs.declared.line.LineMeaning.TheVariants.{NewReport, Post, State, Refused}

-- the reports that were accepted, and those that the table written last holds
pub record Standing : Type 0 where
  pub accepted : List Report
  pub written : List Report

-- before any line: the table of the script is written
abbrev pub at_first : List Report → Standing
at_first script = record { accepted = script; written = script }

-- after a line
abbrev pub after_line : Standing → LineMeaning → Standing
after_line standing (NewReport report) =
    record standing { accepted = standing.accepted ++ report ∷ [] }
after_line standing Post = record standing { written = standing.accepted }
after_line standing State = standing
after_line standing (Refused cause) = standing

-- after lines, in their order
abbrev pub after_lines : Standing → List LineMeaning → Standing
after_lines standing meanings = fold after_line standing meanings
