use Rattle.std.proofs.Common.{ℕ, List, [], ◌∷◌, ◌++◌, sym, ◌∙◌, ap₂, arith}
use Rattle.std.proofs.lemmas.List.FromFn.{map-range_with_len_more}
use Rattle.link_sums.specs.Sums.{amount_at}
use Rattle.mpfa_fill.proofs.growth.row_of.Goals as goal

pub loop-place-preserved : goal.loop-place-preserved
loop-place-preserved c =
    c.in_ok-push.ensures.items ∙ ap₂ (λ (xs : List ℕ) (x : ℕ). xs ++ x ∷ []) c.loop-place.invariant c.amount.ensures
    ∙ sym (map-range_with_len_more (amount_at c.args.sums.now.amounts c.args.group) 0 c.loop-place.place c.loop-place.place (omega arith))
