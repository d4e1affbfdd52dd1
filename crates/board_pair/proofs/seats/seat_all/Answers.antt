use Rattle.std.proofs.Common.{◌++◌, ◌∷◌, [], length, ap, sym, subst, arith, length-append}
use Rattle.std.specs.List.{All}
use Rattle.std.proofs.lemmas.List.Elements.{All-push}
use Rattle.board_pair.specs.declared.reader.ReaderPass.{ReaderPass}
use Rattle.board_pair.specs.Reading.{IsNewReader}
use Rattle.board_pair.proofs.seats.seat_all.Goals as goal

pub loop-preserved : goal.loop-preserved
loop-preserved g c =
    let before = c.loop.invariant in
    let items = c.in_ok-push.ensures.items in
    let P : ReaderPass g.row.T.Denot g.row.N.Denot g.row.B.Denot g.row.T-Frame.Denot g.row.T-Change.Denot → Type 0 = λ pass. IsNewReader g.T.Posted.covers g.N.Profile.belongs pass in
    let all : All P (c.loop.seats.items ++ c.in_ok-seat.seat ∷ []) = All-push P c.loop.seats.items c.in_ok-seat.seat before.new c.in_ok-seat.ensures.new in
    record {
      count = omega (arith, ap length items, length-append c.loop.seats.items (c.in_ok-seat.seat ∷ []), before.count);
      new = subst (All P) (sym items) all;
    }
