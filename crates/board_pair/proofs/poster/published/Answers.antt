use Rattle.board_pair.specs.declared.visits.Visits.{Visits}
use Rattle.board_pair.proofs.poster.published.Goals as goal

-- any view will do
pub publish_as-requires : goal.publish_as-requires
publish_as-requires g c =
    let same : Visits = record { count = 0; covers = 0 } in
    λ next applied views holds at. (same, tt, tt)
