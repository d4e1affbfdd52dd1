-- What is kept, after one group's was dropped.
use Rattle.std.proofs.Common.{◌≡◌, ◌≢◌, ℕ, ◌<◌, List, ◌++◌, length, get_or, set, take, drop, inl, inr, refl, sym, ◌∙◌, arith, subst}
use mathlib.Core.Path.{fun_ext}
use Rattle.std.specs.Prelude.{Contains}
use Rattle.std.proofs.lemmas.Bool.{cases_lt}
use Rattle.std.proofs.lemmas.Grind.{get_or-set_at}
use Rattle.std.proofs.lemmas.List.{length-set, get_or-set_other, take-append-le, take_all}
use Rattle.policy_tree.specs.Trees.{Tree, asking, demand_in, value_in, cluster_numbers}
use Rattle.policy_tree.specs.Nodes.{cluster_in}
use Rattle.kept_tree.specs.declared.group.KnownGroup.{KnownGroup}
use Rattle.kept_tree.specs.Known.{AreKnown, IsKnown, IsKnownOf, limits_in}
use Rattle.kept_tree.proofs.Agreeing.{cluster_value-same, cluster_limits-same}

-- under both trees all groups but one have the same values and limits
pub record AreAlikeBut (group : ℕ) (tree later : Tree) : Type 0 where
  pub count : length later.clusters ≡ length tree.clusters
  pub values : (other : ℕ) → other < length tree.clusters → other ≢ group → value_in tree other ≡ value_in later other
  pub limits : (other : ℕ) → other < length tree.clusters → other ≢ group → limits_in tree other ≡ limits_in later other

pub alike-itself : (group : ℕ) (tree : Tree) → AreAlikeBut group tree tree
alike-itself group tree = record { count = refl; values = λ other lt apart. refl; limits = λ other lt apart. refl }

-- no other group sees the demand of a task
pub alike-asking : (tree : Tree) (task demand group : ℕ)
    → ((other : ℕ) → other < length tree.clusters → Contains (cluster_numbers (cluster_in tree other)) task → other ≡ group)
    → AreAlikeBut group tree (asking tree task demand)
alike-asking tree task demand group owner =
    let agree : (other : ℕ) → other < length tree.clusters → other ≢ group → (at : ℕ) → Contains (cluster_numbers (cluster_in tree other)) at → demand_in tree at ≡ demand_in (asking tree task demand) at =
    λ other lt apart at inside. sym (get_or-set_other tree.demands task at demand 0 (λ same. apart (owner other lt (subst (λ n. Contains (cluster_numbers (cluster_in tree other)) n) same inside)))) in
    record {
      count = refl;
      values = λ other lt apart. cluster_value-same (demand_in tree) (demand_in (asking tree task demand)) tree.top (cluster_in tree other) (agree other lt apart);
      limits = λ other lt apart. fun_ext (λ amount. cluster_limits-same (demand_in tree) (demand_in (asking tree task demand)) tree.top (cluster_in tree other) amount (agree other lt apart));
    }

-- one group's is dropped
pub known-forgotten : (group : ℕ) (tree later : Tree) (known : List KnownGroup) (forgotten : KnownGroup) → AreAlikeBut group tree later
    → ((value_of : ℕ → ℕ) (limits_of : ℕ → List ℕ) → IsKnownOf value_of limits_of forgotten) → AreKnown tree known → AreKnown later (set known group forgotten)
known-forgotten group tree later known forgotten alike dropped are =
    let size : length (set known group forgotten) ≡ length known = length-set known group forgotten in
    let rest : (other : ℕ) (d : KnownGroup) → other < length known → other ≢ group → IsKnown later other (get_or (set known group forgotten) other d) =
    λ other d lt apart.
    let within : other < length tree.clusters = omega (arith, are.count, lt) in
    subst (λ (one : KnownGroup). IsKnown later other one) (sym (get_or-set_other known group other forgotten d apart))
    (subst (λ (value_of : ℕ → ℕ). IsKnownOf value_of (limits_in later other) (get_or known other d)) (alike.values other within apart)
    (subst (λ (limits_of : ℕ → List ℕ). IsKnownOf (value_in tree other) limits_of (get_or known other d)) (alike.limits other within apart)
    (are.each other d lt))) in
    record {
      count = size ∙ are.count ∙ sym alike.count;
      each = λ other d lt.
          let within : other < length known = omega (arith, lt, size) in
          elim (cases_lt other group) [
            | inl less ↦ rest other d within (omega arith)
            | inr ge ↦
                elim (cases_lt group other) [
                  | inl more ↦ rest other d within (omega arith)
                  | inr le ↦
                      let here : other ≡ group = omega arith in
                      subst (λ (one : KnownGroup). IsKnown later other one) (sym (get_or-set_at known group other forgotten d here (omega (arith, within, here)))) (dropped (value_in later other) (limits_in later other))
                ]
          ];
    }

-- more is kept of one group
pub known-set : (tree : Tree) (known : List KnownGroup) (group : ℕ) (one : KnownGroup) → AreKnown tree known → IsKnown tree group one → AreKnown tree (set known group one)
known-set tree known group one are is =
    let size : length (set known group one) ≡ length known = length-set known group one in
    let rest : (other : ℕ) (d : KnownGroup) → other < length known → other ≢ group → IsKnown tree other (get_or (set known group one) other d) =
    λ other d lt apart. subst (λ (kept : KnownGroup). IsKnown tree other kept) (sym (get_or-set_other known group other one d apart)) (are.each other d lt) in
    record {
      count = size ∙ are.count;
      each = λ other d lt.
          let within : other < length known = omega (arith, lt, size) in
          elim (cases_lt other group) [
            | inl less ↦ rest other d within (omega arith)
            | inr ge ↦
                elim (cases_lt group other) [
                  | inl more ↦ rest other d within (omega arith)
                  | inr le ↦
                      let here : other ≡ group = omega arith in
                      subst (λ (kept : KnownGroup). IsKnown tree other kept) (sym (get_or-set_at known group other one d here (omega (arith, within, here)))) (subst (λ (n : ℕ). IsKnown tree n one) (sym here) is)
                ]
          ];
    }

-- a slice of a whole vector was written to
pub written : {X : Type 0} (len : ℕ) (new items : List X) → len ≡ length items → length new ≡ length items → take len (new ++ drop (length new) items) ≡ new
written len new items size same =
    take-append-le len new (drop (length new) items) (omega (arith, size, same)) ∙ take_all len new (omega (arith, size, same))
