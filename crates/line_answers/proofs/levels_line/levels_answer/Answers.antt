use Rattle.std.proofs.Common.{ℕ, ◌^◌, ◌<◌, ◌≤◌, List, length, sum, subst, sym}
use Rattle.std.proofs.lemmas.List.FromFn.{length-map-range_with_len}
use Rattle.bwe_specs.specs.declared.limits.TheConstants.{MAX_TOTAL}
use Rattle.policy_tree.specs.Trees.{value_in}
use Rattle.line_answers.proofs.Together.{levels-together}
use Rattle.line_answers.proofs.levels_line.levels_answer.Goals as goal

pub levels_text-requires-clause-few : goal.levels_text-requires-clause-few
levels_text-requires-clause-few c =
    let groups = length c.args.tree.now.clusters in
    let few : groups < 2 ^ 32 = c.what_holds.ensures.few in
    subst (λ (values : List ℕ). length values < 2 ^ 32) (sym c.requires.values)
    (rw (length-map-range_with_len (λ (group : ℕ). value_in c.args.tree.now group c.args.share) 0 groups) few)

pub levels_text-requires-clause-total : goal.levels_text-requires-clause-total
levels_text-requires-clause-total c =
    subst (λ (values : List ℕ). sum values ≤ MAX_TOTAL) (sym c.requires.values)
    (levels-together c.args.tree.now c.args.share c.what_holds.ensures.values c.requires.share)
