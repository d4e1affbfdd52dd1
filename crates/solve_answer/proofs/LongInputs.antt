-- What an accepted document gets that has more bytes than one of another version may have.
use Rattle.std.proofs.Common.{◌≡◌, ◌<◌, ◌∙◌, ℕ, Bool, true, false, List, length, Option, Some, None, Result, Ok, Err, refl, sym, ap}
use Rattle.std.specs.Prelude.{◌≢◌, ◌==◌, ◌&&◌, not, IfOk, IfSome, IsNone}
use Rattle.std.proofs.lemmas.Bool.{lt-ltb, ne_eqb}
use Rattle.bwe_specs.specs.declared.report.Report.{Report}
use Rattle.bwe_specs.specs.Allocation.{Plan}
use Rattle.one_run.specs.Endings.{Reply, is_above, max_input}
use Rattle.one_run.specs.Lengths.{document_is_too_long}
use Rattle.version_scan.specs.Version.{is_of_version_4}
use Rattle.doc_names.specs.NameTexts.{NameTexts, texts_of}
use Rattle.plan_doc.specs.declared.document.Document.{Document}
use Rattle.plan_doc.specs.Accepted.{IsAccepted}
use Rattle.doc_parts.specs.Document.{document}
use Rattle.doc_parts.specs.Plans.{plan_of}
use Rattle.plan_doc.specs.Plans.{plan_in}
use Rattle.plan_doc.proofs.PlanFacts.{plan-is}
use Rattle.solve_reply.specs.Refused.{document_reply, read_reply}
use Rattle.solve_reply.specs.SolveCall.{IsForInput}
use Rattle.solve_reply.specs.SolveReply.{solve_accepted, table_reply}
use Rattle.solve_answer.proofs.Versions.{of-version-4}

-- a long input is too long unless it is of version 4
by_version : (input : List ℕ) (of_4 : Bool) → max_input < length input → is_of_version_4 input ≡ of_4 → document_is_too_long input ≡ not of_4
by_version input of_4 long is =
    ap (λ (found : Bool). is_above found input) is
    ∙ ap (λ (above : Bool). above && not of_4) (lt-ltb max_input (length input) long)

module _ (input : List ℕ) (held : Document) (is : IsAccepted (document input) held) where
  version_read : is_of_version_4 input ≡ (held.version == 4)
  version_read = of-version-4 input is.0 is.1 ∙ ap (λ (version : ℕ). version == 4) (sym is.2.version)

  table_read : table_reply (texts_of held.names) (plan_in held) held.script.items ≡ document_reply solve_accepted input
  table_read =
      ap (λ (plan : Plan). table_reply (texts_of held.names) plan held.script.items) (plan-is is.0 held is.2)
      ∙ ap (λ (names : NameTexts). table_reply names (plan_of is.0) held.script.items) is.2.names
      ∙ ap (λ (script : List Report). table_reply is.0.names (plan_of is.0) script) is.2.script
      ∙ ap (read_reply solve_accepted) (sym is.1)

  -- what is answered where its version is 4, and only there, is for the input
  pub accepted-for-input : {E : Type 0} → max_input < length input → (r : Result (Option Reply) E)
      → IfOk r (λ found. IfSome found (λ answer. (held.version ≡ 4) × (answer ≡ table_reply (texts_of held.names) (plan_in held) held.script.items)))
      → IfOk r (λ found. IsNone found → held.version ≢ 4)
      → IfOk r (IsForInput input)
  accepted-for-input long (Err error) table other = table
  accepted-for-input long (Ok None) table other = by_version input false long (version_read ∙ ne_eqb held.version 4 (other refl))
  accepted-for-input long (Ok (Some answer)) table other =
      (by_version input true long (version_read ∙ ap (λ (version : ℕ). version == 4) table.0), table.1 ∙ table_read)
