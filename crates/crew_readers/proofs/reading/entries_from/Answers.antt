use Rattle.std.proofs.Common.{◌≡◌, ◌≤◌, ◌<◌, ◌+◌, ◌-◌, ◌++◌, ◌∷◌, [], List, ℕ, Some, length, take, drop, get_or, slice_get, sym, ◌∙◌, ap, arith}
use Rattle.std.proofs.lemmas.List.{take_more, get_or-drop, length-drop}
use Rattle.std.proofs.lemmas.Option.{get_or_from_slice_get}
use Rattle.bwe_specs.specs.declared.report.Report.{Report}
use Rattle.crew_readers.proofs.reading.entries_from.Goals as goal

-- one report more of a log from a place on
one_more : (log : List Report) (from place : ℕ) (report : Report) → from ≤ place → place < length log → Some report ≡ slice_get log place
    → take (place + 1 - from) (drop from log) ≡ take (place - from) (drop from log) ++ report ∷ []
one_more log from place report begun inside is =
    let at : from + (place - from) ≡ place = omega arith in
    let count : place + 1 - from ≡ place - from + 1 = omega arith in
    let read : get_or (drop from log) (place - from) report ≡ report =
    get_or-drop from log (place - from) report ∙ ap (λ (n : ℕ). get_or log n report) at ∙ get_or_from_slice_get log place report report (sym is) in
    ap (λ (n : ℕ). take n (drop from log)) count
    ∙ take_more (drop from log) (place - from) report (omega (arith, length-drop from log))
    ∙ ap (λ (last : Report). take (place - from) (drop from log) ++ last ∷ []) read

pub loop-place-preserved : goal.loop-place-preserved
loop-place-preserved g c =
    let log = c.args.view.now.copy.now.log in
    let report = c.in-Some.report in
    let begun : c.args.from ≤ c.loop-place.place = omega arith in
    let inside : c.loop-place.place < length log = omega (arith, c.requires.end, c.loop-place-test.true) in
    c.in_ok-push.ensures.items
    ∙ ap (λ (entries : List Report). entries ++ report ∷ []) c.loop-place.invariant
    ∙ sym (one_more log c.args.from c.loop-place.place report begun inside c.in-Some.ensures.entry)
