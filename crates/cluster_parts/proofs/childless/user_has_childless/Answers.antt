use Rattle.std.proofs.Common.{◌≡◌, ◌==◌, ℕ, arith, length, map, sym, ap, ◌∙◌}
use Rattle.std.proofs.lemmas.List.{length-map}
use Rattle.raw_document.specs.Raw.{job_view, user_view}
use Rattle.cluster_parts.proofs.ChildlessFacts.{user_bare, user_full}
use Rattle.cluster_parts.proofs.childless.user_has_childless.Goals as goal

pub returns-then-is_empty : goal.returns-then-is_empty
returns-then-is_empty c =
    let jobs = c.args.user.now.jobs in
    let count : length (map job_view jobs.items) ≡ jobs.len = omega (arith, jobs.ok.0, length-map jobs.items job_view) in
    sym (user_bare (user_view c.args.user.now) (ap (λ (n : ℕ). n == 0) count ∙ sym c.is_empty.ensures ∙ c.if-is_empty.true))

pub returns : goal.returns
returns c =
    let jobs = c.args.user.now.jobs in
    let count : length (map job_view jobs.items) ≡ jobs.len = omega (arith, jobs.ok.0, length-map jobs.items job_view) in
    (rw c.deref.ensures.value at c.jobs_have_childless.ensures) ∙ sym (user_full (user_view c.args.user.now) (ap (λ (n : ℕ). n == 0) count ∙ sym c.is_empty.ensures ∙ c.if-is_empty.false))
