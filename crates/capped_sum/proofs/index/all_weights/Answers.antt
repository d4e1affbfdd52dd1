use Rattle.std.proofs.Common.{length, sum_by, ◌∙◌, ap, le_refl}
use Rattle.std.proofs.lemmas.List.{take_all}
use Rattle.capped_sum.proofs.Sums.{sum-ranked}
use Rattle.capped_sum.proofs.index.all_weights.Goals as goal

pub returns : goal.returns
returns c =
    let ranked = c.args.ranked.now in
    c.requires.sums.weights (length ranked) (record { weights = 0; demands = 0 }) (le_refl _)
    ∙ ap (sum_by (λ t. t.weight)) (take_all (length ranked) ranked (le_refl _))
    ∙ sum-ranked (λ t. t.weight) c.args.tasks.now ranked c.requires.ranks.moved
