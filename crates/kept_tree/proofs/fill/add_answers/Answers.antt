use Rattle.std.proofs.Common.{◌≡◌, ℕ, ◌<◌, ◌∙◌, List, length, ap, subst, sym, arith}
use Rattle.policy_tree.specs.Trees.{value_in}
use Rattle.kept_tree.specs.declared.group.KnownGroup.{KnownGroup}
use Rattle.kept_tree.specs.Known.{AreKnown, limits_in}
use Rattle.kept_tree.proofs.Dropped.{known-set}
use Rattle.kept_tree.proofs.fill.add_answers.Goals as goal
use Rattle.kept_tree.proofs.fill.add_answers.Goals.{then-answer-groups, else-answer-groups}

pub loop-answer-preserved : goal.loop-answer-preserved
loop-answer-preserved g c =
    let tree = c.args.tree.now in
    let before = c.loop-answer.known in
    let are = c.loop-answer.invariant in
    let answer = c.answer-item.result in
    let group = answer.group in
    let right : answer.value ≡ value_in tree group answer.share = answer.is ∙ ap (λ (value : ℕ → ℕ → ℕ). value group answer.share) c.requires.meant in
    elim c.if-answer-groups.branch [
      | then-answer-groups w ↦
          let lt : group < length before = omega (arith, are.count, c.groups.ensures, w.if-answer-groups.true) in
          let one = w.index-known-answer.result in
          subst (λ (after : List KnownGroup). AreKnown tree after) (sym w.known-is)
          (known-set tree before group w.add_value.new.self are (w.add_value.ensures (value_in tree group) (limits_in tree group) right (are.each group one lt)))
      | else-answer-groups w ↦ subst (λ (after : List KnownGroup). AreKnown tree after) (sym w.known-is) are
    ]
