use Rattle.std.proofs.Common.{◌≡◌, [], ◌∷◌, ◌++◌, sym, ap, ◌∙◌, subst, arith}
use Rattle.json.specs.Token.{begin_object}
use Rattle.raw_reader.specs.Pieces.{ItemsTake}
use Rattle.raw_reader.proofs.Taking.{one_taken, all_taken}
use Rattle.raw_reader.proofs.pieces.read_items.Goals as goal

pub returns-clause-value : goal.returns-clause-value
returns-clause-value g c =
    let IsRead = g.T.Part.is_read c.args.version in
    let start = c.args.reader.now in
    let x = c.in_ok-first.first in
    let between = c.read_behind_brace.new.reader in
    let read = c.in_ok-first.ensures in
    let others = c.in_ok-closed.ensures.value in
    let behind = others.0 in
    let xs = others.1 in
    let brace : start ≡ begin_object ∷ c.next.new.self = grind arith in
    let one = c.in_ok-add.ensures ∙ ap (λ ys. ys ++ x ∷ []) c.new-found.ensures.items in
    let all = others.2 ∙ ap (λ ys. ys ++ xs) one in (
      behind,
      subst (λ ys. ItemsTake IsRead ys start behind) (sym all)
          (all_taken IsRead (x ∷ []) xs start between behind (one_taken IsRead start c.next.new.self between x brace read.value read.shorter) others.3),
      others.4,
    )

pub returns-clause-begins : goal.returns-clause-begins
returns-clause-begins g c =
    let brace : c.args.reader.now ≡ begin_object ∷ c.next.new.self = grind arith in
    (c.next.new.self, brace)
