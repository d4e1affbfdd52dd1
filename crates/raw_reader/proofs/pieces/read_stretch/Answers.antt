use Rattle.std.proofs.Common.{◌≡◌, [], ◌∷◌, ◌++◌, refl, sym, ap, ◌∙◌, subst, append_assoc, append-nil, inl, inr, arith}
use Rattle.json.specs.Lex.{tokens}
use Rattle.raw_reader.specs.Pieces.{PiecesTake}
use Rattle.raw_reader.proofs.Begun.{begun, over}
use Rattle.raw_reader.proofs.pieces.read_stretch.Goals as goal

pub pieces-init : goal.pieces-init
pieces-init c =
    let s = c.args.stretch in
    let whole = tokens s.text.now in
    let start : c.in_ok-reader.reader ≡ whole = grind arith in
    let none : c.new-pieces.result.items ≡ [] = c.new-pieces.ensures.items in (
      λ ps end h. subst (λ qs. PiecesTake s.version (qs ++ ps) whole end) (sym none) (subst (λ ts. PiecesTake s.version ps ts end) start h),
      λ e. absurd (cc),
      inl (refl, start),
    )

pub pieces-preserved : goal.pieces-preserved
pieces-preserved c =
    let s = c.args.stretch in
    let whole = tokens s.text.now in
    let l = c.pieces in
    let p = c.in_ok-piece.piece in
    let read = c.in_ok-piece.ensures in
    let pushed : c.push.new.self.items ≡ l.pieces.items ++ p ∷ [] = grind arith in (
      λ ps end h.
          let longer = ap (λ qs. qs ++ ps) pushed ∙ append_assoc l.pieces.items (p ∷ []) ps in
          subst (λ qs. PiecesTake s.version qs whole end) (sym longer) (l.invariant.0 (p ∷ ps) end (c.read_piece.new.reader, read.value, h)),
      read.last,
      inr (begun s.place c.in-Some.now whole l.reader l.place l.invariant.2 c.in-Some.is read.begins),
    )

pub returns : goal.returns
returns c =
    let s = c.args.stretch in
    let whole = tokens s.text.now in
    let l = c.pieces in
    let none = c.in_default.is in (
      subst (λ qs. PiecesTake s.version qs whole []) (append-nil l.pieces.items) (l.invariant.0 [] [] (l.invariant.1 none)),
      over s.place whole l.reader l.place l.invariant.2 none,
    )
