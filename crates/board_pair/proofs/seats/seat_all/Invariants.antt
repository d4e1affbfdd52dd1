use Rattle.std.proofs.Common.{◌≡◌, length}
use Rattle.std.specs.List.{All}
use Rattle.board_pair.specs.Reading.{IsNewReader}
use Rattle.board_pair.proofs.seats.seat_all.Given as goal

abbrev pub invariant-loop : goal.invariant-loop
invariant-loop g l = record {
  count : length l.seats.items ≡ l.counter;
  new : All (IsNewReader g.T.Posted.covers g.N.Profile.belongs) l.seats.items;
}
