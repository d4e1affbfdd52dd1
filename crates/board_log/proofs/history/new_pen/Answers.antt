use Rattle.std.proofs.Common.{sym, ◌∙◌, ap}
use Rattle.board_log.proofs.Adding.{gives_pen_moves}
use Rattle.board_log.proofs.history.new_pen.Goals as goal

pub compare_exchange-requires : goal.compare_exchange-requires
compare_exchange-requires c =
    let h = c.requires.word in
    let again = c.again-reached.ensures in
    let offer = c.plain-offer.ensures in
    let pen = c.no_pen-pen.ensures in
    let book = ap (λ s. s.book) again ∙ sym (ap (λ w. w.book) h) in
    (ap (λ w. w.tracked) h, book, pen.0 ∙ book, offer.0, rw (ap (λ w. w.key) h, pen.1, offer.3) (gives_pen_moves c.again-reached.result.log c.plain-offer.result.ask))
