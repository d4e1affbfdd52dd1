use Rattle.std.proofs.Common.{◌≡◌, [], length, map, Some, sym, subst, append-nil, arith}
use Rattle.std.proofs.lemmas.List.{nil_from_length}
use Rattle.std.specs.Vec.Iter.{into_iter_items}
use Rattle.raw_reader.specs.Stretches.{AreRead}
use Rattle.raw_reader.proofs.runs.read_run.Goals as goal

pub returns : goal.returns
returns c =
    let l = c.loop-stretch in
    let rest = into_iter_items l.stretch-iterator in
    let none : length rest ≡ 0 = grind arith in
    let over = nil_from_length rest none in
    subst (AreRead c.args.run.stretches.items) (append-nil (map Some l.all.items)) (l.invariant [] (subst (λ ss. AreRead ss []) (sym over) tt))
