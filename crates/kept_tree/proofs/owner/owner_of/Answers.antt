use Rattle.std.proofs.Common.{◌≡◌, ◌<◌, ◌∙◌, length, ap, arith, ℕ, List}
use Rattle.std.proofs.lemmas.List.FromFn.{length-range_with_len}
use Rattle.policy_tree.specs.Trees.{task_numbers}
use Rattle.kept_tree.proofs.Owners.{owner-is, some-group}
use Rattle.kept_tree.proofs.owner.owner_of.Goals as goal

pub loop-high-init : goal.loop-high-init
loop-high-init c =
    let tree = c.args.tree.now in
    let size : length (task_numbers tree.clusters) ≡ length tree.demands = ap (λ (list : List ℕ). length list) c.what_holds.ensures.tree.numbers ∙ length-range_with_len 0 (length tree.demands) in
    let some : 0 < length tree.clusters = some-group tree.clusters c.args.task (omega (arith, c.requires, size)) in
    record {
      order = omega (arith, some, c.groups-high.ensures);
      upto = omega (arith, c.groups-high.ensures);
      from = omega arith;
      before = λ lt. absurd (omega (arith, c.groups-high.ensures, lt));
    }

pub returns-clause-owner : goal.returns-clause-owner
returns-clause-owner c =
    let tree = c.args.tree.now in
    let kept = c.loop-high.invariant in
    λ group lt inside. owner-is tree.clusters (length tree.demands) c.what_holds.ensures.tree.numbers c.args.task c.loop-high.low c.loop-high.high
    kept.from kept.before (omega (arith, c.loop-high-test.false)) group _ lt inside
