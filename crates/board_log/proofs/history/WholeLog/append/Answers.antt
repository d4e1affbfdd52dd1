use Rattle.std.proofs.Common.{◌≡◌, ◌<◌, ◌++◌, ◌∷◌, [], List, length, sym, ◌∙◌, ap, subst}
use Rattle.std.specs.Prelude.{Bool, MatchBool}
use Rattle.bwe_specs.specs.declared.report.Report.{Report}
use Rattle.board_log.specs.declared.history.Entry.{Entry}
use Rattle.board_log.specs.History.{AreFilled, HasEnded, log_of, pieces_from}
use Rattle.board_log.proofs.Adding.{adds_moves, all_more, grown_by, log_more}
use Rattle.board_log.proofs.history.WholeLog.append.Goals as goal

pub compare_exchange-requires : goal.compare_exchange-requires
compare_exchange-requires g c =
    let i = c.self.invariant in
    let h = i.word_is in
    let away = i.away c.if-self.false in
    let again = c.again-reached.ensures in
    let offer = c.plain-offer.ensures in
    let named = i.named_so ∙ sym (ap (λ w. w.book) h) in (
      ap (λ w. w.tracked) h,
      ap (λ s. s.book) again ∙ named,
      away.book_is ∙ named,
      offer.0,
      rw (ap (λ w. w.key) h, offer.3) (adds_moves c.again-reached.result.log c.self.inside.pen.nib c.plain-offer.result.ask away.right),
    )

pub invariant_of-self : goal.invariant_of-self
invariant_of-self g c =
    let i = c.self.invariant in
    let key = g.B.Bases.book.key in
    let away = i.away c.if-self.false in
    let again = c.again-reached.ensures in
    let offer = c.plain-offer.ensures in
    let step = c.compare_exchange.ensures in
    let next = c.new_pen-next.ensures in
    let log : List Entry = c.self.inside.seen.log in
    let filled : AreFilled (pieces_from key log) = subst (λ (b : Bool). MatchBool b (HasEnded (pieces_from key log)) (AreFilled (pieces_from key log))) c.if-self.false i.filled in
    let is = step.7.1 ∙ (λ t. (again t).log ++ step.7.0 ++ record { given = c.self.inside.pen.nib.key; next = (offer.1 t).next; piece = (offer.1 t).piece } ∷ []) in
    let grown = grown_by key log step.7.0 c.compare_exchange.new.seen.log c.self.inside.pen.nib.key c.new_pen-next.result.nib.key c.args.piece.now.items filled away.key_is is step.7.2 in
    let book = step.0 ∙ ap (λ s. s.book) again in
    let more : AreFilled (pieces_from key c.compare_exchange.new.seen.log) =
    subst AreFilled (sym grown.0) (all_more (λ (piece : List Report). 0 < length piece) (pieces_from key log) c.args.piece.now.items filled c.requires.some) in
    record {
      away = λ _. record { book_is = next.book ∙ sym book; right = next.right; key_is = sym grown.1 };
      filled = subst (λ (b : Bool). MatchBool b (HasEnded (pieces_from key c.compare_exchange.new.seen.log)) (AreFilled (pieces_from key c.compare_exchange.new.seen.log))) (sym c.if-self.false) more;
      named_so = book ∙ i.named_so;
      word_is = i.word_is;
    }

pub returns-clause-added : goal.returns-clause-added
returns-clause-added g c =
    let i = c.self.invariant in
    let key = g.B.Bases.book.key in
    let away = i.away c.if-self.false in
    let again = c.again-reached.ensures in
    let offer = c.plain-offer.ensures in
    let step = c.compare_exchange.ensures in
    let log : List Entry = c.self.inside.seen.log in
    let filled : AreFilled (pieces_from key log) = subst (λ (b : Bool). MatchBool b (HasEnded (pieces_from key log)) (AreFilled (pieces_from key log))) c.if-self.false i.filled in
    let is = step.7.1 ∙ (λ t. (again t).log ++ step.7.0 ++ record { given = c.self.inside.pen.nib.key; next = (offer.1 t).next; piece = (offer.1 t).piece } ∷ []) in
    let grown = grown_by key log step.7.0 c.compare_exchange.new.seen.log c.self.inside.pen.nib.key c.new_pen-next.result.nib.key c.args.piece.now.items filled away.key_is is step.7.2 in
    ap log_of grown.0 ∙ log_more (pieces_from key log) c.args.piece.now.items ∙ ap (λ l. l ++ c.args.piece.now.items) c.self.view_is
