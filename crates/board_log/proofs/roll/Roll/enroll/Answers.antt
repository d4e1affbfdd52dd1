use Rattle.std.proofs.Common.{sym, ◌∙◌, ap, arith}
use Rattle.board_log.specs.Roll.{knower}
use Rattle.board_log.proofs.Rolling.{enrolls}
use Rattle.board_log.proofs.roll.Roll.enroll.Goals as goal

pub split_seat-seat-requires : goal.split_seat-seat-requires
split_seat-seat-requires g c =
    let i = c.self.invariant in
    let v = c.self.inside.keeper.me.0 in
    let empty = ap (λ x. x.log) c.self.view_is ∙ c.requires.empty in
    (i.seated_so ∙ sym i.named_so, (let w = i.one_word in omega arith), enrolls c.self.inside.keeper.id v v.seats (ap (λ x. x.0) i.knows ∙ ap (λ l. knower l v.seats) empty))
