-- A group that stays off a link.
use Rattle.std.proofs.Common.{◌≡◌, ℕ, true, List, ◌∷◌, Some, sym, ◌∙◌, ap}
use Rattle.bwe_specs.specs.declared.network.Closing.{Closing}
use Rattle.bwe_specs.specs.Paths.{path_group_at, uses}
use Rattle.bwe_specs.specs.Filling.{Wan, current_path_group_of, is_at}
use Rattle.bwe_specs.proofs.Growth.{is_at-true}
use Rattle.closing_walk.specs.Walk.{closing_at, IsHigh, StaysOff}

module _ (wan : Wan) (earlier list : List Closing) (at group : ℕ) where
  -- a group is off a link that its path group does not use, if none that needs more is on the one to which it comes
  pub stays-off : (link from : ℕ) → ((place : ℕ) → current_path_group_of wan earlier group ≡ Some place → uses (path_group_at wan.groups group place) link ≡ true → ⊥)
      → (IsHigh list at link from → (place : ℕ) → current_path_group_of wan (closing_at list at ∷ earlier) group ≡ Some place → uses (path_group_at wan.groups group place) link ≡ true → ⊥)
      → StaysOff wan earlier list at link from group
  stays-off link from old new = record {
    leaves = λ place used e. absurd (old place (is_at-true (current_path_group_of wan earlier group) place e) used);
    enters = λ high place used e. absurd (new high place (is_at-true (current_path_group_of wan (closing_at list at ∷ earlier) group) place e) used);
  }

  pub stays-same : (link from : ℕ) → current_path_group_of wan (closing_at list at ∷ earlier) group ≡ current_path_group_of wan earlier group → StaysOff wan earlier list at link from group
  stays-same link from e = record {
    leaves = λ place used at_place. ap (λ o. is_at o place) e ∙ at_place;
    enters = λ high place used at_place. sym (ap (λ o. is_at o place) e) ∙ at_place;
  }
