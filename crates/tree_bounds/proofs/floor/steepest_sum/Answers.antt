use Rattle.std.proofs.Common.{◌≡◌, ℕ, ◌+◌, ◌<◌, ◌≤◌, List, length, map, min, sum_by, take, get_or, ap, arith}
use Rattle.std.proofs.lemmas.List.{take_all}
use Rattle.std.proofs.lemmas.List.Sums.{sum_by_more, sum_by-take-le}
use Rattle.bwe_specs.specs.declared.limits.TheConstants.{MAX_TOTAL}
use Rattle.bwe_specs.specs.Distribution.{children_sum}
use Rattle.bw_function.specs.Rise.{RisesAtMost}
use Rattle.function_sum.specs.Meaning.{IsMeaning}
use Rattle.policy_tree.proofs.Meanings.{nodes-sum}
use Rattle.tree_bounds.proofs.floor.steepest_sum.Goals as goal

-- one more node, and its own rise; what does not fit is above every sum
rises-more : {X : Type 0} (meaning : X → ℕ → ℕ) (nodes : List X) (place : ℕ) (node : X) (sum most limit next : ℕ)
    → IsMeaning (children_sum (map meaning nodes)) → MAX_TOTAL ≤ limit → place < length nodes → node ≡ get_or nodes place node
    → RisesAtMost (λ share. sum_by (λ x. meaning x share) (take place nodes)) sum → RisesAtMost (meaning node) most → next ≡ min (sum + most) limit
    → RisesAtMost (λ share. sum_by (λ x. meaning x share) (take (place + 1) nodes)) next
rises-more meaning nodes place node sum most limit next is high lt here before own both share =
    omega (
      arith,
      sum_by_more (λ x. meaning x share) nodes place node lt,
      sum_by_more (λ x. meaning x (share + 1)) nodes place node lt,
      ap (λ x. meaning x share) here,
      ap (λ x. meaning x (share + 1)) here,
      before share,
      own share,
      sum_by-take-le (λ x. meaning x (share + 1)) nodes (place + 1),
      nodes-sum meaning nodes (share + 1),
      is.bound (share + 1),
    )

pub loop-node-preserved : goal.loop-node-preserved
loop-node-preserved g c =
    rises-more g.C.ShareFunction.meaning c.args.nodes.now c.loop-node.node-index c.node-item.result c.loop-node.sum c.steepest.result _ _ c.requires (omega arith) c.loop-node-test.true c.node-item.is
    c.loop-node.invariant c.steepest.ensures c.saturating_add-sum.ensures

pub returns : goal.returns
returns g c share =
    let nodes = c.args.nodes.now in
    let meaning = g.C.ShareFunction.meaning in
    let all : take c.loop-node.node-index nodes ≡ nodes = take_all c.loop-node.node-index nodes c.loop-node-test.false in
    omega (
      arith,
      c.loop-node.invariant share,
      ap (sum_by (λ x. meaning x share)) all,
      ap (sum_by (λ x. meaning x (share + 1))) all,
      nodes-sum meaning nodes share,
      nodes-sum meaning nodes (share + 1),
    )
