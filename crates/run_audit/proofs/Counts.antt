-- How many reports scripts have.
use Rattle.std.proofs.Common.{◌≡◌, ◌+◌, ℕ, List, [], ◌∷◌, Vec, Global, length, refl, ap, sym, ◌∙◌}
use Rattle.std.specs.List.{sum_by}
use Rattle.std.proofs.lemmas.List.Sums.{sum_by-cons}
use Rattle.bwe_specs.specs.declared.report.Report.{Report}
use Rattle.bwe_specs.specs.Lists.{lists_of}
use Rattle.run_audit.specs.History.{total_of}

-- the sum of the lengths of the scripts
pub total_counted : (scripts : List (Vec Report Global)) → total_of (lists_of scripts) ≡ sum_by (λ script. length script.items) scripts
total_counted [] = refl
total_counted (script ∷ scripts) =
    sum_by-cons length script.items (lists_of scripts)
    ∙ ap (λ (later : ℕ). length script.items + later) (total_counted scripts)
    ∙ sym (sum_by-cons (λ script. length script.items) script scripts)
