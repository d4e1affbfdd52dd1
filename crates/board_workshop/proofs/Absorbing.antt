-- What waits to be absorbed is fit for the maker.
use Rattle.std.proofs.Common.{◌≡◌, ℕ, List, ◌∷◌, ◌++◌, length, drop, get_or, refl, sym, ◌∙◌, ap, subst, Some, None, Bor}
use Rattle.std.specs.Prelude.{Option, IsSome, IfSome}
use Rattle.std.specs.Option.{option_copied, option_to_list}
use Rattle.std.specs.List.{All}
use Rattle.std.proofs.lemmas.List.{drop_at}
use Rattle.std.proofs.lemmas.List.Elements.{All-drop}
use Rattle.bwe_specs.specs.declared.report.Report.{Report}
use Rattle.bwe_specs.specs.Fit.{IsFit}
use Rattle.board_core.specs.Core.{IsAllowed}

pub fit_waiting : (reporters tasks links plan_tasks plan_links : ℕ) (taken waiting seen : List Report) → seen ≡ taken ++ waiting → All (IsAllowed reporters (IsFit tasks links)) seen
    → plan_tasks ≡ tasks → plan_links ≡ links → All (IsFit plan_tasks plan_links) waiting
fit_waiting reporters tasks links plan_tasks plan_links taken waiting seen is allowed tasks_so links_so =
    let all : All (IsAllowed reporters (IsFit tasks links)) waiting = subst (All (IsAllowed reporters (IsFit tasks links))) (ap (drop (length taken)) is ∙ drop_at taken waiting (length taken) refl) (All-drop (IsAllowed reporters (IsFit tasks links)) (length taken) seen allowed) in
    subst (λ (n : ℕ). All (IsFit n plan_links) waiting) (sym tasks_so) (subst (λ (n : ℕ). All (IsFit tasks n) waiting) (sym links_so) (λ k d lt. (all k d lt).1))

-- what the front shows is the first item
pub front_is : (front : Option (Bor Report)) (items : List Report) (report : Report) → Some report ≡ option_copied front → IfSome front (λ x. x.now ≡ get_or items 0 x.now)
    → IsSome front × (get_or items 0 report ≡ report)
front_is (Some x) items report shown here = (search, cc)
front_is None items report shown here = absurd cc

-- and popping it leaves the rest
pub popped : (items rest : List Report) (taken : Option Report) (report : Report) → items ≡ option_to_list taken ++ rest → taken ≡ Some (get_or items 0 report) → get_or items 0 report ≡ report
    → items ≡ report ∷ rest
popped items rest taken report parts is first = parts ∙ ap (λ (o : Option Report). option_to_list o ++ rest) (is ∙ ap Some first)
