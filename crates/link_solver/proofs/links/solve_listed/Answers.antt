use Rattle.std.proofs.Common.{◌*◌, length, ap, arith}
use Rattle.std.proofs.Math.Nat.{mul-le-mul_left}
use Rattle.bwe_specs.specs.Filling.{Wan}
use Rattle.link_front.specs.Front.{wan_in, closings_in}
use Rattle.link_front.specs.Moves.{links_over_all}
use Rattle.link_front.proofs.GroupMoves.{ahead-few}
use Rattle.link_solver.specs.Counts.{path_groups_in}
use Rattle.link_solver.proofs.Counting.{places-few}
use Rattle.link_solver.proofs.links.solve_listed.Goals as goal

pub returns-in_err-close_all-clause-plays : goal.returns-in_err-close_all-clause-plays
returns-in_err-close_all-clause-plays g c levels le =
    let wan : Wan = wan_in g.V.GroupValues.meaning c.in_ok-front.front in
    omega (
      arith,
      c.close_all.ensures.plays levels (omega (arith, le, c.in_ok-dues.ensures.dues.each_link, ap (λ (w : Wan). length w.capacities) c.in_ok-front.ensures.wan)),
      mul-le-mul_left levels (ahead-few wan (closings_in c.in_ok-front.front)),
      ap (λ (w : Wan). levels * links_over_all (length w.capacities) w.groups) c.in_ok-front.ensures.wan,
    )

pub returns-in_err-close_all-clause-moves : goal.returns-in_err-close_all-clause-moves
returns-in_err-close_all-clause-moves g c =
    let wan : Wan = wan_in g.V.GroupValues.meaning c.in_ok-front.front in
    omega (
      arith,
      c.close_all.ensures.moves,
      places-few wan (closings_in c.in_ok-front.front),
      ap (λ (w : Wan). path_groups_in w.groups) c.in_ok-front.ensures.wan,
    )

pub returns-clause-plays : goal.returns-clause-plays
returns-clause-plays g c levels le =
    let wan : Wan = wan_in g.V.GroupValues.meaning c.in_ok-front.front in
    omega (
      arith,
      c.close_all.ensures.plays levels (omega (arith, le, c.in_ok-dues.ensures.dues.each_link, ap (λ (w : Wan). length w.capacities) c.in_ok-front.ensures.wan)),
      mul-le-mul_left levels (ahead-few wan (closings_in c.in_ok-front.front)),
      ap (λ (w : Wan). levels * links_over_all (length w.capacities) w.groups) c.in_ok-front.ensures.wan,
    )

pub returns-clause-moves : goal.returns-clause-moves
returns-clause-moves g c =
    let wan : Wan = wan_in g.V.GroupValues.meaning c.in_ok-front.front in
    omega (
      arith,
      c.close_all.ensures.moves,
      places-few wan (closings_in c.in_ok-front.front),
      ap (λ (w : Wan). path_groups_in w.groups) c.in_ok-front.ensures.wan,
    )
