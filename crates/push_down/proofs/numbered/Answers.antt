use Rattle.std.proofs.Common.{ℕ, ◌<◌, ◌++◌, ◌∷◌, [], List, length, get_or, ap, ap₂, sym, ◌∙◌, arith}
use Rattle.std.proofs.lemmas.List.{map_push, take_more}
use Rattle.push_down.specs.declared.TaskLimit.{TaskLimit}
use Rattle.push_down.specs.Limits.{tasks_in, limits_in}
use Rattle.push_down.proofs.numbered.Goals as goal
use Rattle.policy_tree.proofs.TreeFacts.{range-push}

pub loop-limit-preserved : goal.loop-limit-preserved
loop-limit-preserved c =
    let kept = c.loop-limit.invariant in
    let place = c.loop-limit.limit-index in
    let limits = c.args.limits.now in
    let entry : TaskLimit = record { task = c.loop-limit.task; limit = get_or limits place 0 } in
    let entries = c.loop-limit.entries.items in
    let lt : place < length limits = c.loop-limit-test.true in
    record {
      task = omega (arith, kept.task);
      limits = ap limits_in c.in_ok-push.ensures.items
          ∙ map_push (λ (e : TaskLimit). e.limit) entries entry
          ∙ ap (λ (list : List ℕ). list ++ get_or limits place 0 ∷ []) kept.limits
          ∙ sym (take_more limits place 0 lt);
      tasks = ap tasks_in c.in_ok-push.ensures.items
          ∙ map_push (λ (e : TaskLimit). e.task) entries entry
          ∙ ap₂ (λ (list : List ℕ) (task : ℕ). list ++ task ∷ []) kept.tasks kept.task
          ∙ sym (range-push c.args.first place);
    }
