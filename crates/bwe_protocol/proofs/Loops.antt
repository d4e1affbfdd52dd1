-- Steps of loops.
use Rattle.std.proofs.Common.{◌≡◌, ℕ, ◌+◌, List, [], ◌∷◌, ◌++◌, length, map, take, ◌∙◌, ap, le_refl}
use Rattle.std.proofs.lemmas.List.{take_all}
use Rattle.bwe_specs.specs.declared.report.Report.{Report}
use Rattle.bwe_specs.specs.Reports.{demand_after, numbers}
use Rattle.control_core.proofs.Loops.{one_more}

-- one more demand after all reports
pub demand_more : (reports : List Report) (old new : List ℕ) (x n count : ℕ) → old ≡ map (demand_after reports) (numbers n) → new ≡ old ++ x ∷ [] → x ≡ demand_after (take count reports) n → count ≡ length reports
    → new ≡ map (demand_after reports) (numbers (n + 1))
demand_more reports old new x n count before is value all =
    one_more (demand_after reports) old new x n before is (value ∙ ap (λ k. demand_after (take k reports) n) all ∙ ap (λ list. demand_after list n) (take_all (length reports) reports (le_refl (length reports))))
