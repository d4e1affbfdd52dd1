use Rattle.std.proofs.Common.{◌≡◌}
use Rattle.std.proofs.lemmas.Slice.Eq.{slice_eq-Decides}
use Rattle.std.specs.Bool.{Decides}
use Rattle.demand_book.proofs.Equal.{same_closing}
use Rattle.demand_book.proofs.change.changed_closings.Goals as goal

pub returns-then-eq : goal.returns-then-eq
returns-then-eq c =
    let same : Decides c.eq.result (c.args.old.now ≡ c.args.new.now) = slice_eq-Decides (λ x y. same_closing x y) _ _ _ c.eq.ensures in
    same.0 c.if-eq.true

pub returns : goal.returns
returns c =
    let same : Decides c.eq.result (c.args.old.now ≡ c.args.new.now) = slice_eq-Decides (λ x y. same_closing x y) _ _ _ c.eq.ensures in
    let other = c.if-eq.false in
    (λ e. let yes = same.1 e in absurd (cc), c.in_ok-from_slice.ensures.items)
