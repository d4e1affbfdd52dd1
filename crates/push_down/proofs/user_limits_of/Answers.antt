use Rattle.std.proofs.Common.{◌≡◌, ℕ, ◌+◌, ◌<◌, ◌≤◌, List, length, flat_map, map, zip, ap, ap₂, sym, ◌∙◌, arith}
use Rattle.std.proofs.lemmas.List.Elements.{All-get_or}
use Rattle.bwe_specs.specs.declared.limits.TheConstants.{MAX_TOTAL}
use Rattle.bwe_specs.specs.Distribution.{distribution}
use Rattle.policy_tree.specs.States.{JobState, job_meaning}
use Rattle.push_down.specs.Limits.{limits_of_job}
use Rattle.push_down.proofs.Handed.{handed-size, limits-more, limits-all}
use Rattle.push_down.proofs.user_limits_of.Goals as goal
use Rattle.push_down.proofs.user_limits_of.Goals.{In_ok-amounts}

-- each of the children, which are those that are listed, has an amount
size : (c : In_ok-amounts) → length c.in_ok-amounts.amounts.items ≡ length c.jobs-jobs.result.now
size c =
    handed-size job_meaning c.args.top c.args.amount c.siblings.result.nodes.now c.in_ok-amounts.amounts.items c.in_ok-amounts.ensures.amounts
    ∙ ap (λ (list : List JobState). length list) (c.siblings.ensures ∙ sym c.jobs-jobs.ensures.jobs)

pub index-requires : goal.index-requires
index-requires c = omega (arith, size (goal.at.index-requires c).In_ok-amounts, c.loop-place-test.true, c.in_ok-amounts.amounts.ok.0)

pub job_limits_of-requires-clause-amount : goal.job_limits_of-requires-clause-amount
job_limits_of-requires-clause-amount c =
    let amounts = c.in_ok-amounts.amounts.items in
    let lt : c.loop-place.place < length amounts = omega (arith, size (goal.at.job_limits_of-requires-clause-amount c).In_ok-amounts, c.loop-place-test.true) in
    let bound = All-get_or (λ (given : ℕ). given ≤ c.args.amount + MAX_TOTAL) amounts c.loop-place.place c.index.result.now lt c.in_ok-amounts.ensures.bound in
    omega (arith, bound, c.index.ensures, c.requires.amount)

pub loop-place-preserved : goal.loop-place-preserved
loop-place-preserved c =
    limits-more (limits_of_job c.args.top) c.jobs-jobs.result.now c.in_ok-amounts.amounts.items (size (goal.at.loop-place-preserved c).In_ok-amounts)
    c.loop-place.place c.index-jobs-place.result c.index.result.now _ _ _ c.loop-place-test.true c.index-jobs-place.is c.index.ensures
    c.loop-place.invariant (c.as_slice.ensures.value ∙ c.in_ok-below.ensures) c.in_ok-extend_from_slice.ensures.items

pub returns : goal.returns
returns c =
    limits-all (limits_of_job c.args.top) c.jobs-jobs.result.now c.in_ok-amounts.amounts.items (size (goal.at.returns c).In_ok-amounts)
    c.loop-place.place _ c.loop-place-test.false c.loop-place.invariant
    ∙ ap₂ (λ (list : List JobState) (shared : List ℕ). flat_map (λ pair. limits_of_job c.args.top pair.0 pair.1) (zip list shared)) c.jobs-jobs.ensures.jobs
    (c.in_ok-amounts.ensures.amounts ∙ ap (λ (list : List JobState). distribution c.args.top (map job_meaning list) c.args.amount) c.siblings.ensures)
