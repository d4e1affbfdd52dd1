use Rattle.std.proofs.Common.{◌++◌, ◌∷◌, [], map, take, sym, ap, ◌∙◌, arith}
use Rattle.std.proofs.lemmas.List.{take_all}
use Rattle.std.proofs.lemmas.List.Sums.{sum_by_more, sum_by_more_le}
use Rattle.tree_nodes.specs.Children.{numbers_from}
use Rattle.tree_nodes.proofs.ChildLists.{numbers-more}
use Rattle.tree_nodes.proofs.walked.numbers_of.Goals as goal

pub loop-node-init : goal.loop-node-init
unfolding numbers_from
loop-node-init g c = record { next = omega arith; numbers = c.new-numbers.ensures.items }

pub loop-node-preserved : goal.loop-node-preserved
loop-node-preserved g c =
    let v = c.loop-node.invariant in
    let nodes = c.args.nodes.now in
    let place = c.loop-node.node-index in
    let node = c.node-item.result in
    let more = sum_by_more g.N.Walked.size nodes place node c.loop-node-test.true in
    let same = ap g.N.Walked.size c.node-item.is in
    record {
      next = omega (arith, v.next, c.count-next.ensures, more, same);
      numbers = c.in_ok-push.ensures.items
          ∙ ap (λ numbers. numbers ++ c.loop-node.next ∷ []) v.numbers
          ∙ ap (λ n. numbers_from c.args.first (map g.N.Walked.size (take place nodes)) ++ n ∷ []) v.next
          ∙ sym (numbers-more g.N.Walked.size c.args.first nodes place node c.loop-node-test.true c.node-item.is);
    }

pub count-next-requires : goal.count-next-requires
count-next-requires g c =
    let part = sum_by_more_le g.N.Walked.size c.args.nodes.now c.loop-node.node-index c.node-item.result c.loop-node-test.true in
    omega (arith, part, ap g.N.Walked.size c.node-item.is, c.requires)

pub overflow_add-next : goal.overflow_add-next
overflow_add-next g c =
    let part = sum_by_more_le g.N.Walked.size c.args.nodes.now c.loop-node.node-index c.node-item.result c.loop-node-test.true in
    omega (arith, part, ap g.N.Walked.size c.node-item.is, c.loop-node.invariant.next, c.count-next.ensures, c.requires)

pub returns : goal.returns
returns g c = rw (take_all c.loop-node.node-index c.args.nodes.now c.loop-node-test.false) at c.loop-node.invariant.numbers
