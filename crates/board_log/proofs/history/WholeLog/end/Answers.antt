use Rattle.std.proofs.Common.{◌≡◌, ◌++◌, ◌∷◌, [], List, sym, ◌∙◌, ap, subst, true≢false}
use Rattle.std.specs.Prelude.{Bool, MatchBool}
use Rattle.board_log.specs.declared.history.Entry.{Entry}
use Rattle.board_log.specs.History.{AreFilled, HasEnded, log_of, pieces_from}
use Rattle.board_log.proofs.Adding.{adds_moves, grown_by, marked}
use Rattle.board_log.proofs.history.WholeLog.end.Goals as goal

pub compare_exchange-requires : goal.compare_exchange-requires
compare_exchange-requires g c =
    let i = c.self.invariant in
    let h = i.word_is in
    let away = i.away c.if-self.false in
    let again = c.again-reached.ensures in
    let offer = c.plain-offer.ensures in
    let named = i.named_so ∙ sym (ap (λ w. w.book) h) in (
      ap (λ w. w.tracked) h,
      ap (λ s. s.book) again ∙ named,
      away.book_is ∙ named,
      offer.0,
      rw (ap (λ w. w.key) h, offer.3) (adds_moves c.again-reached.result.log c.self.inside.pen.nib c.plain-offer.result.ask away.right),
    )

pub invariant_of-self : goal.invariant_of-self
invariant_of-self g c =
    let i = c.self.invariant in
    let key = g.B.Bases.book.key in
    let away = i.away c.if-self.false in
    let again = c.again-reached.ensures in
    let offer = c.plain-offer.ensures in
    let step = c.compare_exchange.ensures in
    let log : List Entry = c.self.inside.seen.log in
    let filled : AreFilled (pieces_from key log) = subst (λ (b : Bool). MatchBool b (HasEnded (pieces_from key log)) (AreFilled (pieces_from key log))) c.if-self.false i.filled in
    let is = step.7.1 ∙ (λ t. (again t).log ++ step.7.0 ++ record { given = c.self.inside.pen.nib.key; next = (offer.1 t).next; piece = (offer.1 t).piece } ∷ []) in
    let grown = grown_by key log step.7.0 c.compare_exchange.new.seen.log c.self.inside.pen.nib.key 0 [] filled away.key_is is step.7.2 in
    let book = step.0 ∙ ap (λ s. s.book) again in
    record { away = λ e. absurd (true≢false e); filled = (pieces_from key log, grown.0); named_so = book ∙ i.named_so; word_is = i.word_is }

pub invariant_of-result : goal.invariant_of-result
invariant_of-result g c =
    let i = c.self.invariant in
    let key = g.B.Bases.book.key in
    let again = c.again-reached.ensures in
    let log : List Entry = c.self.inside.seen.log in
    let ended : HasEnded (pieces_from key log) = subst (λ (b : Bool). MatchBool b (HasEnded (pieces_from key log)) (AreFilled (pieces_from key log))) c.if-self.true i.filled in
    record { named_so = ap (λ s. s.book) again ∙ i.named_so; ended = (ended.0, ap (λ s. pieces_from key s.log) again ∙ ended.1) }

pub invariant_of-result-2 : goal.invariant_of-result-2
invariant_of-result-2 g c =
    let i = c.self.invariant in
    let key = g.B.Bases.book.key in
    let away = i.away c.if-self.false in
    let again = c.again-reached.ensures in
    let offer = c.plain-offer.ensures in
    let step = c.compare_exchange.ensures in
    let log : List Entry = c.self.inside.seen.log in
    let filled : AreFilled (pieces_from key log) = subst (λ (b : Bool). MatchBool b (HasEnded (pieces_from key log)) (AreFilled (pieces_from key log))) c.if-self.false i.filled in
    let is = step.7.1 ∙ (λ t. (again t).log ++ step.7.0 ++ record { given = c.self.inside.pen.nib.key; next = (offer.1 t).next; piece = (offer.1 t).piece } ∷ []) in
    let grown = grown_by key log step.7.0 c.compare_exchange.new.seen.log c.self.inside.pen.nib.key 0 [] filled away.key_is is step.7.2 in
    let book = step.0 ∙ ap (λ s. s.book) again in
    let ended = c.again-ended.ensures in
    record { named_so = ap (λ s. s.book) ended ∙ book ∙ i.named_so; ended = (pieces_from key log, ap (λ s. pieces_from key s.log) ended ∙ grown.0) }

pub returns-clause-log : goal.returns-clause-log
returns-clause-log g c =
    let i = c.self.invariant in
    let key = g.B.Bases.book.key in
    let away = i.away c.if-self.false in
    let again = c.again-reached.ensures in
    let offer = c.plain-offer.ensures in
    let step = c.compare_exchange.ensures in
    let log : List Entry = c.self.inside.seen.log in
    let filled : AreFilled (pieces_from key log) = subst (λ (b : Bool). MatchBool b (HasEnded (pieces_from key log)) (AreFilled (pieces_from key log))) c.if-self.false i.filled in
    let is = step.7.1 ∙ (λ t. (again t).log ++ step.7.0 ++ record { given = c.self.inside.pen.nib.key; next = (offer.1 t).next; piece = (offer.1 t).piece } ∷ []) in
    let grown = grown_by key log step.7.0 c.compare_exchange.new.seen.log c.self.inside.pen.nib.key 0 [] filled away.key_is is step.7.2 in
    let book = step.0 ∙ ap (λ s. s.book) again in
    ap log_of grown.0 ∙ marked (pieces_from key log) ∙ c.self.view_is

pub returns-clause-ended : goal.returns-clause-ended
returns-clause-ended g c =
    let i = c.self.invariant in
    let key = g.B.Bases.book.key in
    let away = i.away c.if-self.false in
    let again = c.again-reached.ensures in
    let offer = c.plain-offer.ensures in
    let step = c.compare_exchange.ensures in
    let log : List Entry = c.self.inside.seen.log in
    let filled : AreFilled (pieces_from key log) = subst (λ (b : Bool). MatchBool b (HasEnded (pieces_from key log)) (AreFilled (pieces_from key log))) c.if-self.false i.filled in
    let is = step.7.1 ∙ (λ t. (again t).log ++ step.7.0 ++ record { given = c.self.inside.pen.nib.key; next = (offer.1 t).next; piece = (offer.1 t).piece } ∷ []) in
    let grown = grown_by key log step.7.0 c.compare_exchange.new.seen.log c.self.inside.pen.nib.key 0 [] filled away.key_is is step.7.2 in
    let book = step.0 ∙ ap (λ s. s.book) again in
    ap (λ s. log_of (pieces_from key s.log)) c.again-ended.ensures ∙ ap log_of grown.0 ∙ marked (pieces_from key log) ∙ c.self.view_is
