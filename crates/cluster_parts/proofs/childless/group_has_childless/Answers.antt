use Rattle.std.proofs.Common.{◌≡◌, ◌==◌, ℕ, arith, length, map, sym, ap, ◌∙◌}
use Rattle.std.proofs.lemmas.List.{length-map}
use Rattle.raw_document.specs.Raw.{user_view, group_view}
use Rattle.cluster_parts.proofs.ChildlessFacts.{group_bare, group_full}
use Rattle.cluster_parts.proofs.childless.group_has_childless.Goals as goal

pub returns-then-is_empty : goal.returns-then-is_empty
returns-then-is_empty c =
    let users = c.args.group.now.users in
    let count : length (map user_view users.items) ≡ users.len = omega (arith, users.ok.0, length-map users.items user_view) in
    sym (group_bare (group_view c.args.group.now) (ap (λ (n : ℕ). n == 0) count ∙ sym c.is_empty.ensures ∙ c.if-is_empty.true))

pub returns : goal.returns
returns c =
    let users = c.args.group.now.users in
    let count : length (map user_view users.items) ≡ users.len = omega (arith, users.ok.0, length-map users.items user_view) in
    (rw c.deref.ensures.value at c.users_have_childless.ensures) ∙ sym (group_full (group_view c.args.group.now) (ap (λ (n : ℕ). n == 0) count ∙ sym c.is_empty.ensures ∙ c.if-is_empty.false))
