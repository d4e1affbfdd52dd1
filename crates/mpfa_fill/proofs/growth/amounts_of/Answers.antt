use Rattle.std.proofs.Common.{◌≡◌, ℕ, List, [], ◌∷◌, ◌++◌, map, sym, ◌∙◌, ap, ap₂, arith, Vec, Global}
use Rattle.std.proofs.lemmas.List.{map-append}
use Rattle.std.proofs.lemmas.List.FromFn.{map-range_with_len_more}
use Rattle.bwe_specs.specs.Paths.{path_group_count}
use Rattle.bwe_specs.specs.Reports.{numbers}
use Rattle.bwe_specs.specs.Lists.{lists_of}
use Rattle.link_sums.specs.Sums.{amount_at}
use Rattle.mpfa_fill.proofs.growth.amounts_of.Goals as goal

pub loop-group-preserved : goal.loop-group-preserved
loop-group-preserved c =
    let row : ℕ → List ℕ = λ group. map (amount_at c.args.sums.now.amounts group) (numbers (path_group_count c.args.plan.now group)) in
    let pushed : lists_of c.push.new.self.items ≡ lists_of c.loop-group.rows.items ++ c.in_ok-row_of.field-0.items ∷ [] =
    ap lists_of c.in_ok-push.ensures.items ∙ map-append (λ (r : Vec ℕ Global). r.items) c.loop-group.rows.items (c.in_ok-row_of.field-0 ∷ []) in
    pushed ∙ ap₂ (λ (xs : List (List ℕ)) (x : List ℕ). xs ++ x ∷ []) c.loop-group.invariant c.in_ok-row_of.ensures
    ∙ sym (map-range_with_len_more row 0 c.loop-group.group c.loop-group.group (omega arith))
