-- A script in which no entry is refused is by the owners.
use Rattle.std.proofs.Common.{◌≡◌, ℕ, suc, Bool, true, false, cond, List, [], ◌∷◌, Option, Some, None, refl, ap}
use Rattle.std.specs.Prelude.{All}
use Rattle.std.proofs.lemmas.Bool.{eqb-true}
use Rattle.std.proofs.lemmas.List.Elements.{All-nil, All-cons}
use Rattle.bwe_specs.specs.declared.report.Report.{Report}
use Rattle.doc_names.specs.Owners.{owner_of, is_owner, not_owned}

-- each owner is the one that was found
pub owner_is : (owner : Option ℕ) (reporter : ℕ) → is_owner owner reporter ≡ true → owner ≡ Some reporter
owner_is None reporter e = absurd cc
owner_is (Some owner) reporter e = ap Some (eqb-true owner reporter e)

module _ (task_owners : List ℕ) (link_owners : List (Option ℕ)) where
  abbrev pub IsOwned : Report → Type 0
  IsOwned report = owner_of task_owners link_owners report.target ≡ Some report.reporter

  pub by_owners : (place : ℕ) (script : List Report) → not_owned task_owners link_owners place script ≡ None → All IsOwned script
  unfolding not_owned
  by_owners place [] e = All-nil IsOwned
  by_owners place (report ∷ script) e = go (is_owner (owner_of task_owners link_owners report.target) report.reporter) refl (by_owners (suc place) script) e where
    go : (owned : Bool) → is_owner (owner_of task_owners link_owners report.target) report.reporter ≡ owned
        → (not_owned task_owners link_owners (suc place) script ≡ None → All IsOwned script)
        → ◌≡◌ {A = Option ℕ} (cond {A = Option ℕ} owned (not_owned task_owners link_owners (suc place) script) (Some place)) None → All IsOwned (report ∷ script)
    go true is later h = All-cons IsOwned report script (owner_is (owner_of task_owners link_owners report.target) report.reporter is) (later h)
    go false is later h = absurd cc
