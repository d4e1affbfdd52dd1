-- The log is as long as what the passes have sent together.
use Rattle.std.proofs.Common.{◌≡◌, ℕ, zero, suc, ◌<◌, ◌≤◌, List, [], ◌∷◌, ◌++◌, length, take, get_or, refl, sym, ap, ◌∙◌, arith, add-one}
use Rattle.std.specs.List.{All, sum_by}
use Rattle.std.proofs.lemmas.List.{take_more, take_all}
use Rattle.std.proofs.lemmas.List.Sums.{sum_by-append}
use Rattle.bwe_specs.specs.declared.report.Report.{Report}
use Rattle.board_log.specs.Roll.{own_of, sent_of_first}
use Rattle.board_log.proofs.Placing.{own_lists_add}
use Rattle.bwe_specs.specs.Fit.{IsFit}
use Rattle.board_core.specs.Core.{IsAllowed}
use Rattle.board.specs.Reporting.{Reporting, AreInOrder, fresh_pass}

someone : Reporting
someone = fresh_pass 0

sent_below : (passes : List Reporting) (log : List Report) (m : ℕ) → m ≤ length passes → AreInOrder passes → All (λ pass. pass.own ≡ own_of pass.number log) passes
    → sum_by (λ pass. length pass.own) (take m passes) ≡ sent_of_first m log
sent_below passes log zero le order exact = refl
sent_below passes log (suc m) le order exact =
    let lt : m < length passes = omega arith in
    let pass = get_or passes m someone in
    let more : take (suc m) passes ≡ take m passes ++ pass ∷ [] = ap (λ k. take k passes) (sym (add-one m)) ∙ take_more passes m someone lt in
    let own : length pass.own ≡ length (own_of m log) = ap length (exact m someone lt) ∙ ap (λ n. length (own_of n log)) (order m someone lt) in
    let front : sum_by (λ (p : Reporting). length p.own) (take m passes) ≡ sent_of_first m log = sent_below passes log m (omega arith) order exact in
    ap (sum_by (λ (p : Reporting). length p.own)) more ∙ sum_by-append (λ (p : Reporting). length p.own) (take m passes) (pass ∷ []) ∙ omega (arith, front, own)

pub all_sent : (passes : List Reporting) (log : List Report) (reporters tasks links : ℕ) → length passes ≡ reporters → All (IsAllowed reporters (IsFit tasks links)) log → AreInOrder passes
    → All (λ pass. pass.own ≡ own_of pass.number log) passes → length log ≡ sum_by (λ pass. length pass.own) passes
all_sent passes log reporters tasks links count allowed order exact =
    let whole : take reporters passes ≡ passes = take_all reporters passes (omega arith) in
    let le : reporters ≤ length passes = omega arith in
    sym (own_lists_add reporters log (λ k d h. (allowed k d h).0)) ∙ sym (sent_below passes log reporters le order exact) ∙ ap (sum_by (λ (p : Reporting). length p.own)) whole
