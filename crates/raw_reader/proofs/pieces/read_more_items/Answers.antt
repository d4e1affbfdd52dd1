use Rattle.std.proofs.Common.{◌≡◌, [], ◌∷◌, ◌++◌, length, ap, ◌∙◌, append_assoc, arith}
use Rattle.json.specs.Token.{begin_object, end_array}
use Rattle.raw_reader.proofs.Taking.{more_taken}
use Rattle.raw_reader.proofs.pieces.read_more_items.Goals as goal

pub items-preserved : goal.items-preserved
items-preserved g c =
    let l = c.items in
    let xs = l.invariant.0 in
    let x = c.in_ok-item-in-BeginObject.item in
    let read = c.in_ok-item-in-BeginObject.ensures in
    let brace : l.reader ≡ begin_object ∷ c.next.new.self = grind arith in
    let less = read.shorter in (
      xs ++ x ∷ [],
      c.in_ok-add-in-BeginObject.ensures ∙ ap (λ ys. ys ++ x ∷ []) l.invariant.1 ∙ append_assoc c.args.found.now.items xs (x ∷ []),
      more_taken (g.T.Part.is_read c.args.version) xs c.args.reader.now l.reader c.next.new.self c.read_behind_brace.new.reader x l.invariant.2 brace read.value less,
      omega (arith, ap length brace, l.invariant.3),
    )

pub returns-in-EndArray-clause-value : goal.returns-in-EndArray-clause-value
returns-in-EndArray-clause-value g c =
    let l = c.items in
    let bracket : l.reader ≡ end_array ∷ c.next.new.self = grind arith in
    (l.reader, l.invariant.0, l.invariant.1, l.invariant.2, bracket)
