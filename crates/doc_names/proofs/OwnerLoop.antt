-- The script, entry by entry.
use Rattle.std.proofs.Common.{◌≡◌, ℕ, suc, ◌+◌, ◌<◌, ◌≤◌, Bool, true, false, cond, List, [], length, drop, get_or, Option, Some, None, sym, ap, ◌∙◌, add-one, drop-cons}
use Rattle.std.proofs.lemmas.List.{drop_all}
use Rattle.bwe_specs.specs.declared.report.Report.{Report}
use Rattle.doc_names.specs.Owners.{owner_of, is_owner, not_owned}

module _ (tasks : List ℕ) (links : List (Option ℕ)) (script : List Report) (i : ℕ) (d : Report) (owner : Option ℕ) (may : Bool) where
  not_owned-drop : i < length script → owner ≡ owner_of tasks links (get_or script i d).target → may ≡ is_owner owner (get_or script i d).reporter
      → not_owned tasks links i (drop i script) ≡ cond may (not_owned tasks links (i + 1) (drop (i + 1) script)) (Some i)
  unfolding not_owned
  not_owned-drop within owner_is may_is =
      ap (λ rest. not_owned tasks links i rest) (drop-cons script i d within)
      ∙ ap (λ o. cond (is_owner o (get_or script i d).reporter) (not_owned tasks links (suc i) (drop (suc i) script)) (Some i)) (sym owner_is)
      ∙ ap (λ b. cond b (not_owned tasks links (suc i) (drop (suc i) script)) (Some i)) (sym may_is)
      ∙ ap (λ k. cond may (not_owned tasks links k (drop k script)) (Some i)) (sym (add-one i))

  pub not_owned_here : i < length script → owner ≡ owner_of tasks links (get_or script i d).target → may ≡ is_owner owner (get_or script i d).reporter → may ≡ false
      → not_owned tasks links i (drop i script) ≡ not_owned tasks links 0 script → Some i ≡ not_owned tasks links 0 script
  not_owned_here within owner_is may_is refused before = sym (ap (λ b. cond b (not_owned tasks links (i + 1) (drop (i + 1) script)) (Some i)) refused) ∙ sym (not_owned-drop within owner_is may_is) ∙ before

  pub not_owned_later : i < length script → owner ≡ owner_of tasks links (get_or script i d).target → may ≡ is_owner owner (get_or script i d).reporter → may ≡ true
      → not_owned tasks links i (drop i script) ≡ not_owned tasks links 0 script → not_owned tasks links (i + 1) (drop (i + 1) script) ≡ not_owned tasks links 0 script
  not_owned_later within owner_is may_is allowed before = sym (ap (λ b. cond b (not_owned tasks links (i + 1) (drop (i + 1) script)) (Some i)) allowed) ∙ sym (not_owned-drop within owner_is may_is) ∙ before

none_left : (tasks : List ℕ) (links : List (Option ℕ)) (rest : List Report) (i : ℕ) → rest ≡ [] → not_owned tasks links i rest ≡ None
unfolding not_owned
none_left tasks links rest i e = ap (λ r. not_owned tasks links i r) e

pub all_owned : (tasks : List ℕ) (links : List (Option ℕ)) (script : List Report) (i : ℕ) → length script ≤ i → not_owned tasks links i (drop i script) ≡ not_owned tasks links 0 script → None ≡ not_owned tasks links 0 script
all_owned tasks links script i past before = sym (none_left tasks links (drop i script) i (drop_all i script past)) ∙ before
