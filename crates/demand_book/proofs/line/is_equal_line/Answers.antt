use Rattle.std.proofs.Common.{◌≡◌}
use Rattle.std.proofs.lemmas.Slice.Eq.{slice_eq-Decides}
use Rattle.std.specs.Bool.{Decides}
use Rattle.demand_book.proofs.Equal.{same_place, same_line}
use Rattle.demand_book.proofs.line.is_equal_line.Goals as goal

pub returns : goal.returns
returns c =
    let places : Decides c.eq.result (c.as_slice.result.now ≡ c.as_slice-2.result.now) =
    slice_eq-Decides (λ a b. same_place a b) _ _ _ c.eq.ensures in
    rw (← c.line.view_is, ← c.other.view_is)
    (same_line _ _ c.eq.result c.if-line-other.false c.if-line-other-2.false (rw (c.as_slice.ensures.value, c.as_slice-2.ensures.value) at places))
