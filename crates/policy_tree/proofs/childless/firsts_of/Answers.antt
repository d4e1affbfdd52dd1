use Rattle.std.proofs.Common.{◌≡◌, ℕ, ◌≤◌, List, [], ◌∷◌, length, take, sum_by, refl, sym, ap, ◌∙◌, inl, inr, arith}
use Rattle.std.proofs.lemmas.Bool.{cases_lt}
use Rattle.std.proofs.lemmas.List.{length_push, get_or_append_left, get_or_push}
use Rattle.std.proofs.lemmas.List.Sums.{sum_by_more, sum_by_more_le, sum_by-take-le}
use Rattle.policy_tree.specs.Asked.{cluster_weights}
use Rattle.policy_tree.proofs.childless.firsts_of.Goals as goal

pub overflow_cast-first : goal.overflow_cast-first
overflow_cast-first c =
    let few : sum_by cluster_weights c.args.clusters.now ≤ 1_048_576 = c.requires in
    omega (arith, few, sum_by-take-le cluster_weights c.args.clusters.now c.loop-cluster.cluster-index, c.loop-cluster.invariant.first)

pub tasks-first-requires : goal.tasks-first-requires
tasks-first-requires c =
    let few : sum_by cluster_weights c.args.clusters.now ≤ 1_048_576 = c.requires in
    let part = sum_by_more_le cluster_weights c.args.clusters.now c.loop-cluster.cluster-index c.cluster-item.result c.loop-cluster-test.true in
    omega (arith, few, part, ap cluster_weights c.cluster-item.is)

pub overflow_add-first : goal.overflow_add-first
overflow_add-first c =
    let few : sum_by cluster_weights c.args.clusters.now ≤ 1_048_576 = c.requires in
    let part = sum_by_more_le cluster_weights c.args.clusters.now c.loop-cluster.cluster-index c.cluster-item.result c.loop-cluster-test.true in
    omega (arith, few, part, ap cluster_weights c.cluster-item.is, c.loop-cluster.invariant.first, c.tasks-first.ensures)

pub loop-cluster-init : goal.loop-cluster-init
loop-cluster-init c = record {
  size = ap (λ (firsts : List ℕ). length firsts) c.new-firsts.ensures.items;
  first = refl;
  each = λ group lt. absurd (omega arith);
}

pub loop-cluster-preserved : goal.loop-cluster-preserved
loop-cluster-preserved c =
    let v = c.loop-cluster.invariant in
    let clusters = c.args.clusters.now in
    let place = c.loop-cluster.cluster-index in
    let firsts = c.loop-cluster.firsts.items in
    let more = sum_by_more cluster_weights clusters place c.cluster-item.result c.loop-cluster-test.true in
    let size = ap (λ (firsts : List ℕ). length firsts) c.in_ok-push.ensures.items in
    record {
      size = omega (arith, size, length_push firsts c.loop-cluster.first, v.size);
      first = omega (arith, more, ap cluster_weights c.cluster-item.is, v.first, c.tasks-first.ensures);
      each = λ group lt.
          elim (cases_lt group (length firsts)) [
            | inl below ↦
                rw c.in_ok-push.ensures.items
                (get_or_append_left firsts (c.loop-cluster.first ∷ []) 0 group below ∙ v.each group (omega (arith, below, v.size)))
            | inr past ↦
                let e : group ≡ place = omega (arith, lt, past, v.size) in
                rw c.in_ok-push.ensures.items
                (get_or_push firsts c.loop-cluster.first 0 group (omega (arith, e, v.size)) ∙ v.first ∙ ap (λ n. sum_by cluster_weights (take n clusters)) (sym e))
          ];
    }

pub returns : goal.returns
returns c =
    let v = c.loop-cluster.invariant in
    record {
      size = omega (arith, v.size, c.loop-cluster-test.false, c.loop-cluster.auto.cluster-index-end);
      each = λ group lt. v.each group (omega (arith, lt, c.loop-cluster-test.false));
    }
