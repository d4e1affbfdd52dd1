-- What a group has at two shares, under the same closings.
use Rattle.std.proofs.Common.{◌≡◌, ℕ, ◌+◌, ◌≤◌, true, List, Option, Some, refl, sym, ap, inl, inr, arith, eq-eqb}
use Rattle.std.proofs.lemmas.Bool.{cases_lt}
use Rattle.bwe_specs.specs.declared.network.Closing.{Closing}
use Rattle.bwe_specs.specs.Filling.{Wan, current_path_group_of, is_at, growth}
use Rattle.bwe_specs.specs.RightClosings.{last_share, amounts_at}
use Rattle.bwe_specs.specs.Values.{NeverFalls}
use Rattle.bwe_specs.proofs.Growth.{value-mono, growth-on, amounts_at-grown_amounts}

-- the path group that was found is this one, and no other
at-found : (o : Option ℕ) (found place : ℕ) → o ≡ Some found → place ≡ found → is_at o place ≡ true
unfolding is_at
at-found o found place e same = rw (e, same) (eq-eqb found found refl)

module _ (wan : Wan) (never : NeverFalls wan) (closings : List Closing) where
  later : (s t : ℕ) (group place : ℕ) → last_share closings ≤ s → s ≤ t → t ≤ wan.top → amounts_at wan closings t group place ≡ amounts_at wan closings s group place + growth wan closings s t group place
  later s t group place last order within = sym (ap (λ x. x group place) (amounts_at-grown_amounts wan never closings s t last order within))

  -- on the path group where the group grows, the amount changes as the value does
  pub amounts_at-current : (s t group found place : ℕ) → last_share closings ≤ s → last_share closings ≤ t → s ≤ wan.top → t ≤ wan.top → current_path_group_of wan closings group ≡ Some found → place ≡ found
      → amounts_at wan closings t group place + wan.value group s ≡ amounts_at wan closings s group place + wan.value group t
  amounts_at-current s t group found place last_s last_t within_s within_t current same =
      let on = at-found (current_path_group_of wan closings group) found place current same in
      elim (cases_lt s t) [
        | inl lt ↦ omega (arith, later s t group place last_s (omega arith) within_t, growth-on wan closings s t group place on, value-mono wan never group s t (omega arith) within_t)
        | inr ge ↦ omega (arith, later t s group place last_t ge within_s, growth-on wan closings t s group place on, value-mono wan never group t s ge within_s)
      ]
