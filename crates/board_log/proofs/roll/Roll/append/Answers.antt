use Rattle.std.proofs.Common.{◌≡◌, ◌+◌, ◌++◌, length, sym, ◌∙◌, ap, subst, arith, length-append}
use Rattle.std.specs.Prelude.{All}
use Rattle.board_log.specs.Roll.{with_member, longer_by, placed, IsBy}
use Rattle.board_log.proofs.Rolling.{takes_in, appends, checks, gives_back}
use Rattle.board_log.proofs.roll.Roll.append.Goals as goal

pub join_seat-requires : goal.join_seat-requires
join_seat-requires g c =
    let i = c.self.invariant in
    let m = c.member.invariant in
    let v = c.self.inside.keeper.me.0 in
    let w = c.member.inside.seat.me.0 in
    (i.seated_so ∙ sym i.named_so, m.seated_so ∙ sym i.named_so, ap (λ x. x.1) m.knows, (let k = i.one_word in omega arith), takes_in _ v _ w v.log v.seats w.number w.own (ap (λ x. x.0) i.knows) (ap (λ x. x.0) m.knows))

pub compare_exchange_with-requires : goal.compare_exchange_with-requires
compare_exchange_with-requires g c =
    let i = c.self.invariant in
    let v = c.self.inside.keeper.me.0 in
    let w = c.member.inside.seat.me.0 in
    let j = c.join_seat.ensures in
    let me = j.2 ∙ ap (λ l. (with_member v w, l)) (ap (λ x. x.1) i.knows) in
    let piece = c.args.piece.now in
    let new : c.self.inside.len + c.len.result ≡ length (v.log ++ piece.items) = omega (arith, length-append v.log piece.items, i.counted, c.len.ensures, piece.ok.0) in
    let by : All (IsBy w.number) piece.items = subst (λ n. All (IsBy n) piece.items) (sym (ap (λ x. x.number) c.member.view_is)) c.requires.by in
    (j.0 ∙ i.seated_so ∙ sym i.named_so, (let k = i.one_word in omega arith), appends _ _ _ v.log v.seats w.number w.own piece _ _ me i.counted new by)

pub load-requires : goal.load-requires
load-requires g c =
    let i = c.self.invariant in
    let v = c.self.inside.keeper.me.0 in
    let w = c.member.inside.seat.me.0 in
    let j = c.join_seat.ensures in
    let a = c.compare_exchange_with.ensures in
    let piece = c.args.piece.now in
    let before = j.2 ∙ ap (λ l. (with_member v w, l)) (ap (λ x. x.1) i.knows) in
    let added = a.2.1 ∙ ap (λ x. longer_by x.0 piece.items) before in
    let held = a.2.0 ∙ ap (λ x. x.1) before in
    (a.0 ∙ j.0 ∙ i.seated_so ∙ sym i.named_so, (let k = i.one_word in omega arith), checks _ _ _ (v.log ++ piece.items) v.seats w.number (w.own ++ placed w.number (length v.log) piece.items) (λ k. (added k, held k)))

pub split_seat-seat-requires : goal.split_seat-seat-requires
split_seat-seat-requires g c =
    let i = c.self.invariant in
    let v = c.self.inside.keeper.me.0 in
    let w = c.member.inside.seat.me.0 in
    let j = c.join_seat.ensures in
    let a = c.compare_exchange_with.ensures in
    let l = c.load.ensures in
    let piece = c.args.piece.now in
    let before = j.2 ∙ ap (λ l. (with_member v w, l)) (ap (λ x. x.1) i.knows) in
    let added = a.2.1 ∙ ap (λ x. longer_by x.0 piece.items) before in
    (l.0 ∙ a.0 ∙ j.0 ∙ i.seated_so ∙ sym i.named_so, (let k = i.one_word in omega arith), gives_back _ _ (v.log ++ piece.items) v.seats w.number (w.own ++ placed w.number (length v.log) piece.items) (ap (λ x. x.0) l.2.0 ∙ added))
