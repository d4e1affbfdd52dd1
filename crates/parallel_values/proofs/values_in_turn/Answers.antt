use Rattle.std.proofs.Common.{ℕ, zero-add}
use Rattle.std.proofs.lemmas.List.FromFn.{map-range_with_len_more}
use Rattle.policy_tree.specs.Trees.{value_in}
use Rattle.parallel_values.proofs.values_in_turn.Goals as goal

pub loop-group-preserved : goal.loop-group-preserved
loop-group-preserved c =
    let value = λ (group : ℕ). value_in c.args.tree.now group c.args.share in
    rw (map-range_with_len_more value 0 c.loop-group.group c.loop-group.group (zero-add c.loop-group.group), ← c.loop-group.invariant, ← c.group_value.ensures)
    c.in_ok-push.ensures.items
