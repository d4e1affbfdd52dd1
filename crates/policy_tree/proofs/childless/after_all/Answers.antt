use Rattle.std.proofs.Common.{◌≡◌, ◌+◌, ◌<◌, ◌≤◌, ◌++◌, Bool, List, Ok, Err, length, get_or, take, drop, flat_map, ap, sym, subst, arith}
use Rattle.std.proofs.lemmas.List.Folds.{length-flat_map-take}
use Rattle.std.proofs.lemmas.Result.{err_from_is_err_and}
use Rattle.policy_tree.specs.Childless.{IsCounted}
use Rattle.policy_tree.proofs.Counting.{counted-more, counted-stopped, flat_map-more, flat_map-split}
use Rattle.policy_tree.proofs.childless.after_all.Goals as goal

pub after-requires : goal.after-requires
after-requires g c =
    let tests = g.N.Counted.childless in
    let nodes = c.args.nodes.now in
    let place = c.loop-node.node-index in
    let node = c.node-item.result in
    let lt : place < length nodes = c.loop-node-test.true in
    let part : length (flat_map tests (take place nodes)) + length (tests (get_or nodes place node)) ≤ length (flat_map tests nodes) = length-flat_map-take tests nodes place node lt in
    let same : length (tests node) ≡ length (tests (get_or nodes place node)) = ap (λ n. length (tests n)) c.node-item.is in
    omega (arith, part, same, c.loop-node.invariant.0, c.requires)

pub returns-in_err-next : goal.returns-in_err-next
returns-in_err-next g c =
    let tests = g.N.Counted.childless in
    let nodes = c.args.nodes.now in
    let place = c.loop-node.node-index in
    let node = c.node-item.result in
    let lt : place < length nodes = c.loop-node-test.true in
    let p = err_from_is_err_and c.from_residual.result c.from_residual.ensures.1 in
    rw (p.1, p.2)
    (subst (λ (list : List Bool). IsCounted (Err c.in_err-next.field-0.0) c.args.first list) (sym (flat_map-split tests nodes place node lt c.node-item.is))
    (counted-stopped c.in_err-next.field-0.0 c.args.first (flat_map tests (take place nodes) ++ tests node) (flat_map tests (drop (place + 1) nodes))
    (counted-more (Err c.in_err-next.field-0.0) c.args.first c.loop-node.next (flat_map tests (take place nodes)) (tests node) c.loop-node.invariant c.in_err-next.ensures)))

pub loop-node-preserved : goal.loop-node-preserved
loop-node-preserved g c =
    let tests = g.N.Counted.childless in
    let nodes = c.args.nodes.now in
    let place = c.loop-node.node-index in
    let node = c.node-item.result in
    let lt : place < length nodes = c.loop-node-test.true in
    subst (λ (list : List Bool). IsCounted (Ok c.in_ok-next.next) c.args.first list) (sym (flat_map-more tests nodes place node lt c.node-item.is))
    (counted-more (Ok c.in_ok-next.next) c.args.first c.loop-node.next (flat_map tests (take place nodes)) (tests node) c.loop-node.invariant c.in_ok-next.ensures)
