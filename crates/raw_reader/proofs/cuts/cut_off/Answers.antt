use Rattle.std.proofs.Common.{◌-◌, ◌++◌, Some, length, take, true, refl, sym, ap, ◌∙◌, drop, arith}
use Rattle.std.proofs.lemmas.List.{take-append-drop}
use Rattle.std.proofs.lemmas.Str.Pattern.{ends_char, strip_prefix_char}
use Rattle.raw_reader.proofs.cuts.cut_off.Goals as goal

pub returns : goal.returns
returns c =
    let text = c.args.text.now in
    let front = c.in_ok-front.front.now in
    let rest = c.in_ok-front.rest.now in
    let closed = (ends_char 125 front true c.if-not-ends_with.ensures.cases (omega arith)).0 refl in
    let comma = strip_prefix_char 44 rest (Some c.in_ok-strip_prefix.field-0) c.in_ok-strip_prefix.ensures.cases (omega arith) in
    let joined = sym (take-append-drop c.args.comma text) ∙ ap (λ x. x ++ drop c.args.comma text) (sym c.in_ok-front.ensures.front) ∙ ap (λ x. front ++ x) (sym c.in_ok-front.ensures.back) in
    (take (length front - 1) front, closed, joined ∙ ap (λ x. front ++ x) comma)
