use Rattle.std.proofs.Common.{List, length, flat_map, take, ap, ◌∙◌, sym, arith}
use Rattle.std.proofs.lemmas.List.{take_all, length-append}
use Rattle.tree_nodes.specs.Seen.{Seen}
use Rattle.policy_tree.proofs.Counting.{flat_map-more}
use Rattle.tree_nodes.proofs.SeenPlaces.{inside}
use Rattle.tree_nodes.proofs.walked.value_among.Goals as goal

pub returns-in-Ok : goal.returns-in-Ok
returns-in-Ok g c =
    let found = c.in-Ok.ensures in
    let there = inside g.N.Walked.seen c.args.nodes.now c.loop-node.node-index c.node-item.result c.args.place c.loop-node.past c.loop-node-test.true c.node-item.is c.loop-node.invariant found.0 in
    (there.0, found.1 ∙ ap (λ seen. seen.value c.args.share) (sym there.1))

pub loop-node-preserved : goal.loop-node-preserved
loop-node-preserved g c =
    let seen = g.N.Walked.seen in
    let nodes = c.args.nodes.now in
    let place = c.loop-node.node-index in
    let node = c.node-item.result in
    let more = ap (λ (list : List Seen). length list) (flat_map-more seen nodes place node c.loop-node-test.true c.node-item.is) in
    omega (arith, more, length-append (flat_map seen (take place nodes)) (seen node), c.loop-node.invariant, c.in-Err.ensures)

pub returns : goal.returns
returns g c = rw (take_all c.loop-node.node-index c.args.nodes.now c.loop-node-test.false) at c.loop-node.invariant
