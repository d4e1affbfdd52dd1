use Rattle.std.proofs.Common.{length, sym, ap, arith}
use Rattle.std.proofs.lemmas.List.{take_all}
use Rattle.std.proofs.lemmas.List.Sums.{sum_by_more, sum_by_more_le}
use Rattle.bwe_specs.specs.Lists.{lists_of}
use Rattle.tree_nodes.proofs.ChildLists.{length-lists_of, lists-more, lists-none}
use Rattle.tree_nodes.proofs.walked.push_all_children.Goals as goal

pub loop-node-init : goal.loop-node-init
loop-node-init g c = record {
  next = omega arith;
  count = omega arith;
  lists = lists-none g.N.Walked.tasks g.N.Walked.nodes c.args.task (length c.args.children.now.items) (lists_of c.args.children.now.items);
}

pub loop-node-preserved : goal.loop-node-preserved
loop-node-preserved g c =
    let v = c.loop-node.invariant in
    let nodes = c.args.nodes.now in
    let place = c.loop-node.node-index in
    let node = c.node-item.result in
    let more_tasks = sum_by_more g.N.Walked.tasks nodes place node c.loop-node-test.true in
    let more_nodes = sum_by_more g.N.Walked.size nodes place node c.loop-node-test.true in
    let same_tasks = ap g.N.Walked.tasks c.node-item.is in
    let same_nodes = ap g.N.Walked.size c.node-item.is in
    record {
      next = omega (arith, v.next, c.in_ok-next.ensures.next, more_tasks, same_tasks);
      count = omega (arith, v.count, c.in_ok-next.ensures.count, more_nodes, same_nodes);
      lists = lists-more g.N.Walked.tasks g.N.Walked.nodes c.args.task nodes place node (lists_of c.args.children.now.items) (lists_of c.loop-node.children.items) (lists_of c.push_children.new.children.items)
          (length c.args.children.now.items) c.loop-node.next (length c.loop-node.children.items)
          c.loop-node-test.true c.node-item.is (sym (length-lists_of c.args.children.now)) (sym (length-lists_of c.loop-node.children)) v.next v.lists c.in_ok-next.ensures.lists;
    }

pub push_children-requires-clause-room : goal.push_children-requires-clause-room
push_children-requires-clause-room g c =
    let part = sum_by_more_le g.N.Walked.size c.args.nodes.now c.loop-node.node-index c.node-item.result c.loop-node-test.true in
    omega (arith, part, ap g.N.Walked.size c.node-item.is, c.loop-node.invariant.count, c.requires.room)

pub push_children-requires-clause-tasks : goal.push_children-requires-clause-tasks
push_children-requires-clause-tasks g c =
    let part = sum_by_more_le g.N.Walked.tasks c.args.nodes.now c.loop-node.node-index c.node-item.result c.loop-node-test.true in
    omega (arith, part, ap g.N.Walked.tasks c.node-item.is, c.loop-node.invariant.next, c.requires.tasks)

pub returns : goal.returns
returns g c =
    let all = take_all c.loop-node.node-index c.args.nodes.now c.loop-node-test.false in
    let v = c.loop-node.invariant in
    record { next = rw all at v.next; count = rw all at v.count; lists = rw all at v.lists }
