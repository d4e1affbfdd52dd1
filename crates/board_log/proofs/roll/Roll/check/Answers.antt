use Rattle.std.proofs.Common.{sym, ◌∙◌, ap, arith}
use Rattle.board_log.specs.Roll.{with_member}
use Rattle.board_log.proofs.Rolling.{takes_in, checks, gives_back}
use Rattle.board_log.proofs.roll.Roll.check.Goals as goal

pub join_seat-requires : goal.join_seat-requires
join_seat-requires g c =
    let i = c.self.invariant in
    let m = c.member.invariant in
    let v = c.self.inside.keeper.me.0 in
    let w = c.member.inside.seat.me.0 in
    (i.seated_so ∙ sym i.named_so, m.seated_so ∙ sym i.named_so, ap (λ x. x.1) m.knows, (let k = i.one_word in omega arith), takes_in _ v _ w v.log v.seats w.number w.own (ap (λ x. x.0) i.knows) (ap (λ x. x.0) m.knows))

pub load-requires : goal.load-requires
load-requires g c =
    let i = c.self.invariant in
    let v = c.self.inside.keeper.me.0 in
    let w = c.member.inside.seat.me.0 in
    let j = c.join_seat.ensures in
    let me = j.2 ∙ ap (λ l. (with_member v w, l)) (ap (λ x. x.1) i.knows) in
    (j.0 ∙ i.seated_so ∙ sym i.named_so, (let k = i.one_word in omega arith), checks _ _ _ v.log v.seats w.number w.own me)

pub split_seat-seat-requires : goal.split_seat-seat-requires
split_seat-seat-requires g c =
    let i = c.self.invariant in
    let v = c.self.inside.keeper.me.0 in
    let w = c.member.inside.seat.me.0 in
    let j = c.join_seat.ensures in
    let l = c.load.ensures in
    let me = ap (λ x. x.0) l.2.0 ∙ ap (λ x. x.0) j.2 in
    (l.0 ∙ j.0 ∙ i.seated_so ∙ sym i.named_so, (let k = i.one_word in omega arith), gives_back _ _ v.log v.seats w.number w.own me)
