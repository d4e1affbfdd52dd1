use Rattle.std.proofs.Common.{◌≡◌, ℕ, Option, nat_le, sym, ◌∙◌, ap}
use Rattle.std.proofs.Math.Path.{fun_ext}
use Rattle.bwe_specs.specs.Bounded.{greatest_upto}
use Rattle.bwe_specs.specs.Tree.{inner_share}
use Rattle.bw_function.specs.BwFunction.{Function}
use Rattle.policy_tree.specs.States.{transformed}
use Rattle.policy_tree.proofs.Transforms.{transformed-meaning, transformed-none, transformed-some}
use Rattle.policy_tree.proofs.Inverses.{if-some-same}
use Rattle.policy_tree.proofs.value.last_share_at.Goals as goal

-- the same test of shares
same_last : (top amount : ℕ) (f g : ℕ → ℕ) → ((share : ℕ) → f share ≡ g share) → greatest_upto top (λ share. nat_le (f share) amount) ≡ greatest_upto top (λ share. nat_le (g share) amount)
same_last top amount f g same = ap (λ (h : ℕ → ℕ). greatest_upto top (λ share. nat_le (h share) amount)) (fun_ext same)

pub returns-in-None-clause-last : goal.returns-in-None-clause-last
returns-in-None-clause-last g c =
    let meaning = g.P.ShareFunction.meaning c.args.sum.now in
    if-some-same c.last_share_within.result _ _
    (same_last c.args.top c.args.amount meaning (transformed c.args.function.now meaning)
    (λ share. sym (transformed-none meaning share) ∙ ap (λ (t : Option Function). transformed t meaning share) (sym c.in-None.is)))
    c.last_share_within.ensures.last

pub returns-in-None-clause-meaning : goal.returns-in-None-clause-meaning
returns-in-None-clause-meaning g c = transformed-meaning _ _ c.requires c.last_share_within.ensures.meaning

pub returns-in-Some-clause-last : goal.returns-in-Some-clause-last
returns-in-Some-clause-last g c =
    let meaning = g.P.ShareFunction.meaning c.args.sum.now in
    let parent = c.in-Some.parent in
    c.last_by_parent.ensures.last
    ∙ same_last c.args.top c.args.amount (λ share. meaning (inner_share parent.top parent.points meaning share)) (transformed c.args.function.now meaning)
    (λ share.
    sym (transformed-some parent meaning share) ∙ ap (λ (t : Option Function). transformed t meaning share) (sym c.in-Some.is))

pub returns-in-Some-clause-meaning : goal.returns-in-Some-clause-meaning
returns-in-Some-clause-meaning g c = transformed-meaning _ _ c.requires c.last_by_parent.ensures.meaning
